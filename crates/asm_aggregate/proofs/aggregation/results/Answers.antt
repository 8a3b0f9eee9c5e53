use Rattle.std.proofs.Common.{ap, sym, subst, ◌∙◌}
use Rattle.asm_aggregate.specs.Stretch.{IsArranged, referred}
use Rattle.asm_aggregate.proofs.Parted.{fewer}
use Rattle.asm_aggregate.proofs.Walked.{walk_starts, first_written, first_above, walk_goes_on, walk_refuses, walk_ends}
use Rattle.asm_aggregate.proofs.aggregation.results.Goals as goal

pub loop-stretch-init : goal.loop-stretch-init
loop-stretch-init g c =
    walk_starts _ _ c.args.instructions.now _ _
    (subst (IsArranged c.args.instructions.now) (sym (c.of-stretches.ensures ∙ ap referred c.as_slice.ensures.value)) c.in_ok-list.ensures)
    c.in_ok-results.ensures

pub result_at-requires : goal.result_at-requires
result_at-requires g c =
    first_written _ _ _ _ _ _ _ _ _ c.in-Some.ensures c.in_ok-bundle.ensures c.loop-stretch.invariant

pub push-requires : goal.push-requires
push-requires g c =
    first_above _ _ _ _ _ _ _ _ _ c.in-Some.ensures c.in_ok-bundle.ensures c.loop-stretch.invariant

pub loop-stretch-preserved : goal.loop-stretch-preserved
loop-stretch-preserved g c =
    walk_goes_on _ _ _ _ _ _ c.in-Some.stretch.at.now _ _ c.in-Some.ensures c.in_ok-bundle.ensures
    c.loop-stretch.invariant _ _ c.in-Ok.ensures c.in_ok-push-in-Ok.ensures

pub loop-stretch-smaller : goal.loop-stretch-smaller
loop-stretch-smaller g c = fewer _ _ _ _ c.in-Some.ensures

pub returns-in-Err : goal.returns-in-Err
returns-in-Err g c =
    walk_refuses _ _ _ _ _ _ c.in-Some.stretch.at.now _ _ c.in-Some.ensures c.in_ok-bundle.ensures
    c.loop-stretch.invariant c.in-Err.error _ c.in-Err.ensures c.clash_at.ensures

pub returns : goal.returns
returns g c = walk_ends _ _ _ _ _ c.in_default.ensures c.loop-stretch.invariant
