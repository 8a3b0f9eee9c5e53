use Rattle.std.proofs.Common.{refl, arith, rules}
use Rattle.std.specs.Prelude.{FitsSigned}
use Rattle.std.specs.Int.{w64}
use Rattle.std.proofs.lemmas.Int.{ints}
use Rattle.asm_aggregate.proofs.CountSteps.{counted_more, counted_all}
use Rattle.asm_aggregate.proofs.count_agg.total_of.Goals as goal

pub loop-action-init : goal.loop-action-init
loop-action-init c = record { is = refl; below = omega (arith, ints); above = omega (arith, ints) }

pub overflow_add-sum : goal.overflow_add-sum
overflow_add-sum c =
    let below = c.loop-action.invariant.below in
    let above = c.loop-action.invariant.above in
    let got = c.from-sum.ensures in
    omega (arith, ints, below, above, got)

pub loop-action-preserved : goal.loop-action-preserved
loop-action-preserved c =
    let below = c.loop-action.invariant.below in
    let above = c.loop-action.invariant.above in
    let got = c.from-sum.ensures in
    let fits : FitsSigned w64 c.increment_of.result = search rules in
    counted_more _ _ c.action-item.result _ c.increment_of.result _
    (record { within = c.loop-action-test.true; read = c.action-item.is }) c.increment_of.ensures fits
    (omega (arith, ints, below, above, got, fits)) c.loop-action.invariant

pub returns-clause-sum : goal.returns-clause-sum
returns-clause-sum c = counted_all _ _ _ c.loop-action-test.false c.loop-action.invariant

pub returns-clause-below : goal.returns-clause-below
returns-clause-below c = let below = c.loop-action.invariant.below in omega (arith, ints, below)

pub returns-clause-above : goal.returns-clause-above
returns-clause-above c = let above = c.loop-action.invariant.above in omega (arith, ints, above)
