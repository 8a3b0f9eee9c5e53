use Rattle.asm_script.proofs.ReadyInstructions.{ready_gives}
use Rattle.asm_script.proofs.block.block_move.Goals as goal

pub returns-in_ok-copy-in-Ready : goal.returns-in_ok-copy-in-Ready
returns-in_ok-copy-in-Ready g c =
    ready_gives (g.L.Lookup.value_at c.args.lookup.now) c.form.result.now c.args.block.now c.in-Ready.instructions
    c.in_ok-copy-in-Ready.field-0 c.form.ensures.ready c.in-Ready.is c.in_ok-copy-in-Ready.ensures
