use Rattle.asm_aggregate.specs.Steps.{lowered}
use Rattle.asm_aggregate.proofs.BagRecount.{moved_none, moved_more, moved_all, lowered_twice}
use Rattle.asm_aggregate.proofs.bag_change.lower.Goals as goal

pub loop-action-init : goal.loop-action-init
loop-action-init c = moved_none lowered _ _

pub loop-action-preserved : goal.loop-action-preserved
loop-action-preserved c =
    moved_more lowered lowered_twice _ _ _ _ _ _ _ _
    (record { within = c.loop-action-test.true; read = c.action-item.is }) c.element_named.ensures
    c.lower_one.ensures c.loop-action.invariant

pub returns : goal.returns
returns c = moved_all lowered _ _ _ _ _ c.loop-action-test.false c.loop-action.invariant
