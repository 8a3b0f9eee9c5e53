use Rattle.asm_journal.proofs.FrontObjects.{full_begins}
use Rattle.asm_journal.proofs.front.answer.front_full.Goals as goal

pub returns : goal.returns
returns c = full_begins c.args.text.now c.in_ok-rest.rest.now c.in_ok-rest.ensures
