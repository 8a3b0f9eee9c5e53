-- What was told of steps after some moves is so after more.
use Rattle.std.proofs.Common.{◌≡◌, inl, inr, ℕ, zero, suc, ◌-◌, ◌≤◌, List, [], ◌∷◌, ◌++◌, length}
use Rattle.std.proofs.Common.{take, None, Ok, Err, length-append, arith, sym, ap, subst, ◌∙◌}
use Rattle.std.proofs.lemmas.List.{length-take}
use mathlib.Core.List.{IsPrefix}
use Rattle.asm_element.specs.Place.{Place}
use Rattle.asm_update.specs.Aggregator.{Meaning}
use Rattle.asm_update.specs.Fire.{fire}
use Rattle.asm_update.specs.Move.{Move}
use Rattle.asm_update.specs.declared.clash.Clash.{Clash}
use Rattle.asm_storage.specs.Machine.{Machine, machine_state}
use Rattle.asm_storage.specs.declared.history.Event.{Event}
use Rattle.asm_storage.proofs.Lists.{take-prefix, length-prefix}
use Rattle.asm_script.specs.Sequencing.{fire_blocks, step_move_on, IsMoveFor}
use Rattle.asm_play.specs.StepEvents.{IsFiring, IsClashing, HasNoRoom, HasFault, Outgrows}
use Rattle.asm_play.specs.StepEvents.{AreTries, AreInVain, IsEndedAfter, HasTriesOf, HasTries, IsTryOf, IsVainTry}
use Rattle.asm_play.specs.StepEvents.{AreStepEvents, AreStepsEvents}
use Rattle.asm_script.specs.declared.step.Step.{Step}
use Rattle.asm_script.specs.declared.fault.StepFault.{StepFault}
use Rattle.asm_script.specs.declared.fault.StepFault.TheVariants as fault
use Rattle.asm_play.specs.declared.step_end.StepEnd.{StepEnd}
use Rattle.asm_play.specs.declared.step_end.StepEnd.TheVariants as step_end

module _ (own : Meaning) (m : Machine) (q r : List Move) (p : IsPrefix q r) where
  fault_later : (step : Step) (f : StepFault) → HasFault own m q step f → HasFault own m r step f
  fault_later step f (n, le, stands) = (
    n,
    omega (arith, le, length-prefix q r p),
    subst (λ w. IsMoveFor own (machine_state m w) step (Err f)) (take-prefix n q r p le) stands,
  )

  outgrows_later : (step : Step) → Outgrows own m q step → Outgrows own m r step
  outgrows_later step (inl reads) = inl reads
  outgrows_later step (inr has) = inr (fault_later step fault.Many has)

  clashing_later : (step : Step) (c : Clash) (e : Event) → IsClashing own m q step c e → IsClashing own m r step c e
  clashing_later step c e (reads, M, call, answer, n, le, move, blocks) =
      let same = take-prefix n q r p le in (
        reads,
        M,
        call,
        answer,
        n,
        omega (arith, le, length-prefix q r p),
        subst (λ w. step_move_on own (machine_state m w) None step ≡ Ok M) same move,
        ap (λ w. fire_blocks m.part (machine_state m w) step) (sym same) ∙ blocks,
      )

  no_room_later : (step : Step) (e : Event) → HasNoRoom own m q step e → HasNoRoom own m r step e
  no_room_later step e (reads, M, call, answer, n, le, many, move, (B, blocks)) =
      let same = take-prefix n q r p le in (
        reads,
        M,
        call,
        answer,
        n,
        omega (arith, le, length-prefix q r p),
        many,
        subst (λ w. step_move_on own (machine_state m w) None step ≡ Ok M) same move,
        (B, ap (λ w. fire_blocks m.part (machine_state m w) step) (sym same) ∙ blocks),
      )

  firing_later : (step : Step) (k : ℕ) (e : Event) → IsFiring own m q step k e → IsFiring own m r step k e
  firing_later step k e (reads, M, call, answer, some, whole, move, (B, fires, blocks)) =
      let counted = sym (length-take k q) ∙ ap length whole ∙ length-append (take (k - 1) q) (M ∷ []) in
      let within : k ≤ length q = omega (arith, counted, length-take (k - 1) q, some) in
      let first = take-prefix (k - 1) q r p (omega (arith, within)) in (
        reads,
        M,
        call,
        answer,
        some,
        sym (take-prefix k q r p within) ∙ whole ∙ ap (λ w. w ++ M ∷ []) first,
        subst (λ w. step_move_on own (machine_state m w) None step ≡ Ok M) first move,
        (
          B,
          subst (λ w. fire m.part (machine_state m w) M ≡ Ok B) first fires,
          subst (λ w. fire_blocks m.part (machine_state m w) step ≡ Ok B) first blocks,
        ),
      )

  reported_later : (step : Step) (o : StepEnd) (es : List Event) → AreStepEvents own m q step o es → AreStepEvents own m r step o es
  reported_later step (step_end.Fired k) es reported = (reported.0, reported.1, reported.2, reported.3, firing_later step k reported.1 reported.4)
  reported_later step step_end.Full es reported = (reported.0, reported.1, reported.2, reported.3, no_room_later step reported.1 reported.4)
  reported_later step (step_end.Clash c) es (inl reported) =
      inl (reported.0, reported.1, reported.2, reported.3, clashing_later step c reported.1 reported.4)
  reported_later step (step_end.Clash c) es (inr reported) = inr (reported.0, fault_later step (fault.Clash c) reported.1)
  reported_later step (step_end.Term f) es reported = (reported.0, fault_later step (fault.Term f) reported.1)
  reported_later step (step_end.Large l) es reported = (reported.0, fault_later step (fault.Large l) reported.1)
  reported_later step step_end.Many es reported = (reported.0, outgrows_later step reported.1)
  reported_later step step_end.GaveUp es reported = reported

  try_later : (step : Step) (places : List Place) (es : List Event) → IsTryOf own m q step places es →
      IsTryOf own m r step places es
  try_later step places es (n, le, read, fires, is, reading, inl none) =
      (n, omega (arith, le, length-prefix q r p), read, fires, is, reading, inl none)
  try_later step places es (n, le, read, fires, is, reading, inr (e, M, one, asked, move)) = (
    n,
    omega (arith, le, length-prefix q r p),
    read,
    fires,
    is,
    reading,
    inr (
      e,
      M,
      one,
      asked,
      subst (λ w. step_move_on own (machine_state m w) None step ≡ Ok M) (take-prefix n q r p le) move,
    ),
  )

  vain_try_later : (step : Step) (places : List Place) (es : List Event) → IsVainTry own m q step places es →
      IsVainTry own m r step places es
  vain_try_later step [] es has = has
  vain_try_later step (l ∷ ls) es has = (try_later step (l ∷ ls) es has.0, has.1)

  pub are_tries_later : (step : Step) (places : List Place) (n : ℕ) (es : List Event) →
      AreTries own m q step places n es → AreTries own m r step places n es
  are_tries_later step places zero es has = has
  are_tries_later step places (suc n) es (first, last, is, before, once) = (
    first,
    last,
    is,
    are_tries_later step places n first before,
    vain_try_later step places last once,
  )

  in_vain_later : (step : Step) (places : List Place) (n : ℕ) (es : List Event) →
      AreInVain own m q step places n es → AreInVain own m r step places n es
  in_vain_later step places n es has = record {
    tries = are_tries_later step places n es has.tries;
    busy = has.busy;
    lost = omega (arith, has.lost, length-prefix q r p);
    counted = has.counted;
  }

  ended_later : (step : Step) (places : List Place) (es : List Event) → IsEndedAfter own m q step places es →
      IsEndedAfter own m r step places es
  ended_later step places es has = record {
    few = has.few;
    tried = has.tried;
    most = has.most;
    first = has.first;
    last = has.last;
    parts = has.parts;
    in_vain = in_vain_later step places has.tried has.first has.in_vain;
    once = try_later step places has.last has.once;
    fresh = has.fresh;
  }

  tries_of_later : (step : Step) (places : List Place) (o : StepEnd) (es : List Event) →
      HasTriesOf own m q step places o es → HasTriesOf own m r step places o es
  tries_of_later step places step_end.GaveUp es has = record {
    few = has.few;
    tried = has.tried;
    all = has.all;
    in_vain = in_vain_later step places has.tried es has.in_vain;
  }
  tries_of_later step places step_end.Many es (inl none) = inl none
  tries_of_later step places step_end.Many es (inr has) = inr (ended_later step places es has)
  tries_of_later step places o es has = ended_later step places es has

  tries_later : (step : Step) (o : StepEnd) (es : List Event) → HasTries own m q step o es → HasTries own m r step o es
  tries_later step o es (places, reads, has) = (places, reads, tries_of_later step places o es has)

  pub are_reported_later : (ss : List Step) (os : List StepEnd) (es : List Event) → AreStepsEvents own m q ss os es →
      AreStepsEvents own m r ss os es
  are_reported_later [] [] es reported = reported
  are_reported_later (s ∷ ss) (o ∷ os) es reported = (
    reported.0,
    reported.1,
    reported.2,
    reported_later s o reported.0 reported.3,
    tries_later s o reported.0 reported.4,
    are_reported_later ss os reported.1 reported.5,
  )
  are_reported_later ss os es reported = absurd reported
