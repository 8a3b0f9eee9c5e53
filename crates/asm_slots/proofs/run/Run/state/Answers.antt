use Rattle.std.proofs.Common.{◌≡◌, List, Some, refl, subst}
use Rattle.asm_aggregate.specs.Standard.{standard_meaning}
use Rattle.asm_run.specs.Protocol.{Segment as Saved}
use Rattle.asm_run.specs.Reader.{IsStateAfter}
use Rattle.asm_run.specs.declared.trail.Place.TheVariants as at
use Rattle.asm_slots.specs.RunReads.{HasReadNoText}
use Rattle.std_alloc.specs.Box.{with_value}
use Rattle.asm_slots.specs.RunView.{RunView, HasReadSo}
use Rattle.asm_slots.specs.contracts.run.Run.{the_view}
use Rattle.asm_slots.specs.Standard.{part}
use Rattle.asm_slots.proofs.run.Run.state.Goals as goal

pub returns-in_ok-state_text-in-Some-clause-ok : goal.returns-in_ok-state_text-in-Some-clause-ok
unfolding standard_meaning
returns-in_ok-state_text-in-Some-clause-ok c = (
  subst (λ (a : RunView). a.trail.place ≡ at.Between) c.self.view_is
      (subst (λ r. r.trail.place ≡ at.Between) c.deref.ensures c.in-Between.is),
  (
    c.in-Some.left,
    c.in_ok-state_text-in-Some.ensures,
    subst (λ (a : RunView). (skipped segments : List Saved) → HasReadSo a skipped segments →
        IsStateAfter part segments (Some c.in-Some.left)) c.self.view_is
        (subst (λ r. (skipped segments : List Saved) → HasReadSo (the_view (record { reader = with_value c.self.inside.reader r; writer = c.self.inside.writer })) skipped segments →
        IsStateAfter part segments (Some c.in-Some.left)) c.deref-2.ensures (rw c.in-Some.is at c.in_ok-left.ensures)),
  ),
)

pub returns-in-None-clause-err : goal.returns-in-None-clause-err
unfolding standard_meaning
returns-in-None-clause-err c = (
  subst (λ (a : RunView). a.trail.place ≡ at.Between) c.self.view_is
      (subst (λ r. r.trail.place ≡ at.Between) c.deref.ensures c.in-Between.is),
  subst (λ (a : RunView). HasReadNoText a) c.self.view_is
      (subst (λ r. HasReadNoText (the_view (record { reader = with_value c.self.inside.reader r; writer = c.self.inside.writer }))) c.deref-2.ensures (rw c.in-None.is at c.in_ok-left.ensures)),
)
