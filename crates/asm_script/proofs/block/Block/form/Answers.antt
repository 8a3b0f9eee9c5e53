use Rattle.asm_script.proofs.ReadyInstructions.{form_gives}
use Rattle.asm_script.proofs.block.Block.form.Goals as goal

pub returns-clause-ready : goal.returns-clause-ready
returns-clause-ready c = form_gives c.self.inside.form c.args.self.now c.self.view_is
