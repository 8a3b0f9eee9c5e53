use Rattle.asm_journal.proofs.FrontObjects.{clash_begins}
use Rattle.asm_journal.proofs.front.answer.ClashFromFront.from_front.Goals as goal

pub returns : goal.returns
returns c =
    clash_begins c.args.text.now c.in_ok-inside.inside.now c.in_ok-at.left.now c.in_ok-second.second.now c.in_ok-cause.end.now c.in_ok-rest.rest.now
    c.in_ok-at.at c.in_ok-cause.cause c.in_ok-inside.ensures c.in_ok-at.ensures c.in_ok-second.ensures c.in_ok-cause.ensures c.in_ok-rest.ensures
