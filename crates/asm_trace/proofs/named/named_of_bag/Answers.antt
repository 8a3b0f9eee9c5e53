use Rattle.asm_trace.proofs.Unchanged.{counts_none, counts_more, counts_all}
use Rattle.asm_trace.proofs.named.named_of_bag.Goals as goal

pub loop-action-init : goal.loop-action-init
loop-action-init c = counts_none c.args.whole.now c.new-part.result c.new-part.ensures

pub loop-action-preserved : goal.loop-action-preserved
loop-action-preserved c =
    counts_more c.args.whole.now c.loop-action.part c.raise.new.part c.args.actions.now c.loop-action.action-index _
    (record { within = c.loop-action-test.true; read = c.action-item.is }) c.in_ok-raise.ensures c.loop-action.invariant

pub returns : goal.returns
returns c =
    counts_all c.args.whole.now c.loop-action.part c.args.actions.now c.loop-action.action-index c.loop-action-test.false
    c.loop-action.invariant
