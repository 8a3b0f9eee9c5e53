use Rattle.asm_journal.proofs.FrontObjects.{counted_begins, some_amount}
use Rattle.asm_journal.proofs.front.instruction.counted.Goals as goal

pub returns : goal.returns
returns c =
    counted_begins c.args.text.now c.in_ok-element.left.now c.in_ok-second.second.now c.in_ok-count.end.now c.in_ok-rest.rest.now
    c.in_ok-element.element c.in_ok-count.count c.in_ok-amount.amount c.in_ok-element.ensures c.in_ok-second.ensures c.in_ok-count.ensures
    c.in_ok-rest.ensures
    (some_amount c.in_ok-count.count c.in_ok-amount.amount c.in_ok-amount.ensures.zero.1 c.in_ok-amount.ensures.value)
    c.in_ok-amount.ensures.value
