use Rattle.asm_journal.proofs.FrontObjects.{named_begins}
use Rattle.asm_journal.proofs.front.call.NamedFromFront.from_front.Goals as goal

pub returns : goal.returns
returns c =
    named_begins c.args.text.now c.in_ok-inside.inside.now c.in_ok-at.left.now c.in_ok-second.second.now c.in_ok-number.end.now c.in_ok-rest.rest.now
    c.in_ok-at.at c.in_ok-number.number c.in_ok-inside.ensures c.in_ok-at.ensures c.in_ok-second.ensures c.in_ok-number.ensures c.in_ok-rest.ensures
