use Rattle.asm_journal.proofs.FrontObjects.{count_begins}
use Rattle.asm_journal.proofs.front.value.CountedFromFront.from_front.Goals as goal

pub returns : goal.returns
returns c =
    count_begins c.args.text.now c.in_ok-inside.inside.now c.in_ok-element.rest.now (c.in_ok-element.element, c.in_ok-element.amount)
    c.in_ok-inside.ensures c.in_ok-element.ensures
