use Rattle.asm_trace.proofs.Unchanged.{named_none, named_more, named_all}
use Rattle.asm_trace.proofs.named.named_of_set.Goals as goal

pub loop-action-init : goal.loop-action-init
loop-action-init c = named_none c.args.whole.now c.new-part.result c.new-part.ensures

pub loop-action-preserved : goal.loop-action-preserved
loop-action-preserved c =
    named_more c.args.whole.now c.loop-action.part c.keep.new.part c.args.actions.now c.loop-action.action-index _
    (record { within = c.loop-action-test.true; read = c.action-item.is }) c.in_ok-keep.ensures c.loop-action.invariant

pub returns : goal.returns
returns c =
    named_all c.args.whole.now c.loop-action.part c.args.actions.now c.loop-action.action-index c.loop-action-test.false
    c.loop-action.invariant
