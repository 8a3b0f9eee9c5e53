use Rattle.asm_element.specs.Tests.{on_err}
use Rattle.asm_aggregate.specs.Steps.{raised}
use Rattle.asm_aggregate.proofs.BagRecount.{moved_none, moved_more, moved_all, raised_twice, lowered_back}
use Rattle.asm_aggregate.proofs.bag_change.raise.Goals as goal

pub loop-action-init : goal.loop-action-init
loop-action-init c = moved_none raised _ _

pub loop-action-preserved : goal.loop-action-preserved
loop-action-preserved c =
    moved_more raised raised_twice _ _ _ _ _ _ _ _
    (record { within = c.loop-action-test.true; read = c.action-item.is }) c.element_named.ensures
    c.in_ok-raise_one.ensures.ok c.loop-action.invariant

pub returns-in_err-raise_one-clause-err : goal.returns-in_err-raise_one-clause-err
returns-in_err-raise_one-clause-err c =
    on_err c.from_residual.result
    (lowered_back _ _ _ _ c.args.actions.now c.loop-action.action-index c.in_err-raise_one.ensures.err c.loop-action.invariant)

pub returns-clause-ok : goal.returns-clause-ok
returns-clause-ok c = moved_all raised _ _ _ _ _ c.loop-action-test.false c.loop-action.invariant
