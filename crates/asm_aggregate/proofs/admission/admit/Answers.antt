use Rattle.std.proofs.Common.{ap, sym, subst, refl, ◌∙◌}
use Rattle.std.specs.FinMap as finite
use Rattle.asm_aggregate.specs.Stretch.{IsArranged, referred}
use Rattle.asm_aggregate.proofs.Parted.{fewer}
use Rattle.asm_aggregate.proofs.Walked.{walk_starts, first_written, walk_admits, walk_rejects, walk_ends}
use Rattle.asm_aggregate.proofs.OnlyPut.{has_updates}
use Rattle.asm_aggregate.proofs.admission.admit.Goals as goal

pub returns-then-is_some : goal.returns-then-is_some
returns-then-is_some g c =
    has_updates _ _ c.args.instructions.now c.only_put.result c.only_put.ensures.some (sym c.is_some.ensures ∙ c.if-is_some.true)

pub loop-stretch-init : goal.loop-stretch-init
loop-stretch-init g c = (
  finite.empty,
  walk_starts _ _ c.args.instructions.now _ _
      (subst (IsArranged c.args.instructions.now) (sym (c.of-stretches.ensures ∙ ap referred c.as_slice.ensures.value)) c.in_ok-list.ensures)
      refl,
)

pub admit_at-requires : goal.admit_at-requires
admit_at-requires g c =
    first_written _ _ _ _ _ _ _ _ _ c.in-Some.ensures c.in_ok-bundle.ensures c.loop-stretch.invariant.1

pub loop-stretch-preserved : goal.loop-stretch-preserved
loop-stretch-preserved g c =
    walk_admits _ _ _ _ _ _ c.in-Some.stretch.at.now _ _ c.in-Some.ensures c.in_ok-bundle.ensures
    c.loop-stretch.invariant.1 c.in-Ok.ensures

pub loop-stretch-smaller : goal.loop-stretch-smaller
loop-stretch-smaller g c = fewer _ _ _ _ c.in-Some.ensures

pub returns-in-Err : goal.returns-in-Err
returns-in-Err g c =
    walk_rejects _ _ _ _ _ _ c.in-Some.stretch.at.now _ _ c.in-Some.ensures c.in_ok-bundle.ensures
    c.loop-stretch.invariant.1 c.in-Err.error _ c.in-Err.ensures c.clash_at.ensures

pub returns : goal.returns
returns g c = (
  c.loop-stretch.invariant.0,
  walk_ends _ _ _ _ _ c.in_default.ensures c.loop-stretch.invariant.1,
)
