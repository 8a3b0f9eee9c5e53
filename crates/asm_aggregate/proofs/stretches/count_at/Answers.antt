use Rattle.std.proofs.Common.{refl}
use Rattle.asm_element.specs.Tests.{true_from_not, false_from_not}
use Rattle.asm_aggregate.proofs.Arranged.{here_more, ends_here, all_here, none_left}
use Rattle.asm_aggregate.proofs.stretches.count_at.Goals as goal

pub returns-then-ne-clause-ends : goal.returns-then-ne-clause-ends
returns-then-ne-clause-ends c =
    ends_here c.args.list.now c.loop-count.count c.index-list-count.result c.loop-count-test.true c.index-list-count.is
    c.args.at.now (false_from_not _ _ c.ne.ensures c.if-ne.true)

pub loop-count-preserved : goal.loop-count-preserved
loop-count-preserved c =
    here_more c.args.list.now c.loop-count.count c.index-list-count.result c.loop-count-test.true c.index-list-count.is
    c.args.at.now c.loop-count.invariant (true_from_not _ _ c.ne.ensures c.if-ne.false)

pub returns-clause-here : goal.returns-clause-here
returns-clause-here c =
    all_here c.args.at.now c.args.list.now c.loop-count.count c.loop-count-test.false c.loop-count.invariant
    _ refl

pub returns-clause-ends : goal.returns-clause-ends
returns-clause-ends c = none_left c.args.at.now c.args.list.now _ refl
