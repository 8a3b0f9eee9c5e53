-- What holds of a folder at each stage of its writer, and that each event keeps it.
use Rattle.std.proofs.Common.{◌≡◌, ◌⊎◌, inl, inr, ⊎_elim, ℕ, ◌≤◌, List, [], ◌∷◌, ◌++◌, length, take, drop, refl}
use Rattle.std.proofs.Common.{sym, ap, ◌∙◌, subst, Option, Some, None, true, false}
use Rattle.asm_run.specs.declared.stage.Stage.{Stage}
use Rattle.asm_run.specs.declared.stage.Stage.TheVariants.{Ended, Opening, Resting, Removing, Creating, Writing}
use Rattle.asm_run.specs.declared.stage.Stage.TheVariants.{Flushing, Renaming, Dropping, FlushingFolder}
use Rattle.asm_run.specs.Name.{number_in}
use Rattle.asm_run.specs.Disk.{Disk, disk_after as after, Remove, FlushFolder, IsAfterPowerFailure}
use Rattle.asm_run.specs.Protocol.{Segment, Order, Saves, Drops, segment_of, present_after, dropped_after, present_at}
use Rattle.asm_run.specs.Protocol.{dropped_at, new_name, request_at, next_stage, disk_after_request, RequestMayLeave}
use Rattle.asm_run.specs.Protocol.{IsAtWork, text_of, AreNumbered, Holds, MayOrder}
use Rattle.asm_run.proofs.Texts.{same_run, either_one}
use Rattle.asm_run.proofs.Orders.{IsRun, ordered, order_number, order_apart, dropped_found, dropped_found_after}
use Rattle.asm_run.proofs.Folders.{IsAt, bytes_of, Sure, Unsure, Now, IsNew, IsFlushed, sure_left, unsure_left}
use Rattle.asm_run.proofs.Folders.{sure_flushed, unsure_flushed, now_flushed, sure_changed, new_changed}
use Rattle.asm_run.proofs.Folders.{flushed_changed, sure_renamed, unsure_renamed, sure_created, new_created}
use Rattle.asm_run.proofs.Folders.{unsure_named, now_after, unsure_dropped, now_dropped}

module _ (legal : List Segment → Type 0) (n : ℕ) where
  -- the order may be done, and at most so many segments are dropped then
  abbrev pub IsPending : List Segment → List Segment → Order → Type 0
  IsPending dropped present o = MayOrder legal dropped present o × (length (dropped_after o dropped) ≤ n)

  -- the folder has what was reported, or perhaps what the order leaves
  abbrev pub HasReported : Disk → List Segment → List Segment → Order → Type 0
  HasReported d dropped present o = Sure d present ⊎ (IsPending dropped present o × Unsure d present
      (present_after o present))

  abbrev pub At : Stage → Disk → List Segment → List Segment → Order → Type 0
  At Ended d dropped present o = HasReported d dropped present o
  At Opening d dropped present o = HasReported d dropped present o
  At Resting d dropped present o = Sure d present
  At Removing d dropped present (Saves s) = Sure d present × IsPending dropped present (Saves s)
  At Creating d dropped present (Saves s) = Sure d present × IsPending dropped present (Saves s)
  At Writing d dropped present (Saves s) = Sure d present × IsPending dropped present (Saves s) × IsNew d []
  At Flushing d dropped present (Saves s) = Sure d present × IsPending dropped present (Saves s) × IsNew d s.1
  At Renaming d dropped present (Saves s) = Sure d present × IsPending dropped present
      (Saves s) × IsNew d s.1 × IsFlushed d
  At Dropping d dropped present (Drops s) = Sure d present × IsPending dropped present (Drops s)
  At FlushingFolder d dropped present o = IsPending dropped present o × Unsure d present
      (present_after o present) × Now d (present_after o present)
  At stage d dropped present o = ⊥

  abbrev pub Keeps : Stage → Disk → List Segment → List Segment → Order → Type 0
  Keeps stage d dropped present o = IsRun legal dropped present × (length dropped ≤ n) × At stage d dropped present o

  abbrev pub HoldsOne : Disk → List Segment → List Segment → Order → Type 0
  HoldsOne d dropped present o = Holds d present ⊎ (IsPending dropped present o × Holds d (present_after o present))

  one_of : (P : List ℕ → Option (List ℕ) → Type 0) (dropped present : List Segment) (o : Order) →
      IsRun legal dropped present → IsPending dropped present o →
      ((n : List ℕ) (j : ℕ) → number_in n ≡ Some j → P n (text_of present n) ⊎ P n
      (text_of (present_after o present) n)) →
      ((n : List ℕ) (j : ℕ) → number_in n ≡ Some j → P n (text_of present n)) ⊎ ((n : List ℕ) (j : ℕ) →
      number_in n ≡ Some j → P n (text_of (present_after o present) n))
  one_of P dropped present o run pending h =
      let number = order_number legal dropped present o pending.0 run in
      either_one P present (present_after o present) (segment_of o).0 number.0 number.1
      (order_apart legal dropped present o pending.0) h

  -- the folder may be read
  pub holds_reported : (d : Disk) (dropped present : List Segment) (o : Order) → IsRun legal dropped present →
      HasReported d dropped present o → HoldsOne d dropped present o
  holds_reported d dropped present o run (inl sure) = inl
      (λ n k is. bytes_of d (d.names n) (text_of present n) (sure n k is (d.names n) (inl refl)))
  holds_reported d dropped present o run (inr h) =
      ⊎_elim
      (λ old. inl (λ n k is. bytes_of d (d.names n) (text_of present n) (old n k is)))
      (λ new. inr (h.0, λ n k is. bytes_of d (d.names n) (text_of (present_after o present) n) (new n k is)))
      (one_of (λ n t. IsAt d (d.names n) t) dropped present o run h.0 (λ n k is. h.1 n k is (d.names n) (inl refl)))

  pub reported_left : (d e : Disk) (dropped present : List Segment) (o : Order) → IsAfterPowerFailure d e →
      HasReported d dropped present o → HasReported e dropped present o
  reported_left d e dropped present o l (inl sure) = inl (sure_left d e present l sure)
  reported_left d e dropped present o l (inr h) = inr (h.0, unsure_left d e present (present_after o present) l h.1)

  reported_flushed : (d : Disk) (dropped present : List Segment) (o : Order) → HasReported d dropped present o →
      HasReported (after FlushFolder d) dropped present o
  reported_flushed d dropped present o (inl sure) = inl (sure_flushed d present sure)
  reported_flushed d dropped present o (inr h) = inr (h.0, unsure_flushed d present (present_after o present) h.1)

  -- these are found, and so many are dropped
  pub record IsFound (d : Disk) (dropped present : List Segment) (o : Order) (from : ℕ)
      (segments : List Segment) : Type 0 where
    pub which : ((take from (dropped ++ present) ≡ dropped) × (segments ≡ present)) ⊎
        (MayOrder legal dropped present o × (take from (dropped ++ present) ≡ dropped_after o dropped) ×
        (segments ≡ present_after o present))
    pub keeps : Keeps Resting (after FlushFolder d) (take from (dropped ++ present)) segments o

  -- whoever opens the folder finds that
  pub opened : (d : Disk) (dropped present : List Segment) (o : Order) → IsRun legal dropped present →
      length dropped ≤ n → HasReported d dropped present o → (from : ℕ) (segments : List Segment) →
      AreNumbered from segments → Holds (after FlushFolder d) segments →
      IsFound d dropped present o from segments
  opened d dropped present o run few (inl sure) from segments are holds =
      found (same_run from (length dropped) segments present are run.numbered
      (λ n k is. sym (holds n k is) ∙ bytes_of d (d.names n) (text_of present n)
      (sure n k is (d.names n) (inl refl)))) (sure_flushed d present sure)
    where
      found : segments ≡ present → Sure (after FlushFolder d) present → IsFound d dropped present o from segments
      found same now =
          let at = dropped_found legal from dropped present (subst (AreNumbered from) same are) run in
          record {
            which = inl (at, same);
            keeps = (
              subst (λ (g : List Segment). IsRun legal g segments) (sym at)
                  (subst (IsRun legal dropped) (sym same) run),
              subst (λ (g : List Segment). length g ≤ n) (sym at) few,
              subst (Sure (after FlushFolder d)) (sym same) now,
            );
          }
  opened d dropped present o run few (inr h) from segments are holds =
      ⊎_elim
      (λ old. found (same_run from (length dropped) segments present are run.numbered
      (λ n k is. sym (holds n k is) ∙ bytes_of d (d.names n) (text_of present n) (old n k is)))
      (now_flushed d present old))
      (λ new. changed (same_run from (length (dropped_after o dropped)) segments (present_after o present) are
      (ordered legal dropped present o h.0.0 run).numbered
      (λ n k is. sym (holds n k is) ∙ bytes_of d (d.names n) (text_of (present_after o present) n) (new n k is)))
      (now_flushed d (present_after o present) new))
      (one_of (λ n t. IsAt d (d.names n) t) dropped present o run h.0 (λ n k is. h.1 n k is (d.names n) (inl refl)))
    where
      found : segments ≡ present → Sure (after FlushFolder d) present → IsFound d dropped present o from segments
      found same now =
          let at = dropped_found legal from dropped present (subst (AreNumbered from) same are) run in
          record {
            which = inl (at, same);
            keeps = (
              subst (λ (g : List Segment). IsRun legal g segments) (sym at)
                  (subst (IsRun legal dropped) (sym same) run),
              subst (λ (g : List Segment). length g ≤ n) (sym at) few,
              subst (Sure (after FlushFolder d)) (sym same) now,
            );
          }

      changed : segments ≡ present_after o present → Sure (after FlushFolder d) (present_after o present) →
          IsFound d dropped present o from segments
      changed same now =
          let at = dropped_found_after legal from dropped present o h.0.0 (subst (AreNumbered from) same are) run in
          record {
            which = inr (h.0.0, at, same);
            keeps = (
              subst (λ (g : List Segment). IsRun legal g segments) (sym at)
                  (subst (IsRun legal (dropped_after o dropped)) (sym same)
                  (ordered legal dropped present o h.0.0 run)),
              subst (λ (g : List Segment). length g ≤ n) (sym at) h.0.1,
              subst (Sure (after FlushFolder d)) (sym same) now,
            );
          }

  module _ (no_segment : number_in new_name ≡ None) where
    pub reported_cleaned : (d : Disk) (dropped present : List Segment) (o : Order) → HasReported d dropped present o →
        HasReported (after (Remove new_name) d) dropped present o
    reported_cleaned d dropped present o (inl sure) = inl (sure_renamed no_segment d present None sure)
    reported_cleaned d dropped present o (inr h) = inr
        (h.0, unsure_renamed no_segment d present (present_after o present) None h.1)

    -- the oldest segment is removed
    unsure_first : (d : Disk) (dropped present : List Segment) (s : Segment) → IsRun legal dropped present →
        IsPending dropped present (Drops s) → Sure d present →
        Unsure (after (Remove s.0) d) present (drop 1 present) × Now (after (Remove s.0) d) (drop 1 present)
    unsure_first d dropped present s run pending sure =
        let is = pending.0.2 in
        let numbered = subst (AreNumbered (length dropped)) is run.numbered in
        let all = subst (Sure d) is sure in
        subst (λ (l : List Segment). Unsure (after (Remove s.0) d) l (drop 1 l) × Now (after (Remove s.0) d)
        (drop 1 l)) (sym is) (
          unsure_dropped d (length dropped) s (pending.0.0 ∷ pending.0.1) numbered all,
          now_dropped d
              (length dropped) s (pending.0.0 ∷ pending.0.1) numbered all,
        )

    -- a request is done
    pub does : (stage : Stage) (d : Disk) (dropped present : List Segment) (o : Order) → IsAtWork stage →
        Keeps stage d dropped present o →
        Keeps (next_stage stage) (disk_after_request (segment_of o) (request_at stage) d) (dropped_at stage o dropped)
        (present_at stage o present) o
    does Ended d dropped present o none h = absurd none
    does Opening d dropped present o none h = absurd none
    does Resting d dropped present o none h = absurd none
    does Removing d dropped present (Saves s) w h = (h.0, h.1, (sure_renamed no_segment d present None h.2.0, h.2.1))
    does Removing d dropped present (Drops s) w h = absurd h.2
    does Creating d dropped present (Saves s) w h = (
      h.0,
      h.1,
      (sure_created no_segment d present h.2.0, h.2.1, new_created no_segment d present h.2.0),
    )
    does Creating d dropped present (Drops s) w h = absurd h.2
    does Writing d dropped present (Saves s) w h = (
      h.0,
      h.1,
      (
        sure_changed d present [] (λ f. record { bytes = f.bytes ++ s.1; flushed = false }) h.2.2 h.2.0,
        h.2.1,
        new_changed d [] s.1 (λ f. record { bytes = f.bytes ++ s.1; flushed = false }) h.2.2
            (ap (λ (b : List ℕ). b ++ s.1) h.2.2.bytes),
      ),
    )
    does Writing d dropped present (Drops s) w h = absurd h.2
    does Flushing d dropped present (Saves s) w h = (
      h.0,
      h.1,
      (
        sure_changed d present s.1 (λ f. record { bytes = f.bytes; flushed = true }) h.2.2 h.2.0,
        h.2.1,
        new_changed d s.1 s.1 (λ f. record { bytes = f.bytes; flushed = true }) h.2.2 h.2.2.bytes,
        flushed_changed d s.1 (λ f. record { bytes = f.bytes; flushed = true }) h.2.2 refl,
      ),
    )
    does Flushing d dropped present (Drops s) w h = absurd h.2
    does Renaming d dropped present (Saves s) w h = (
      h.0,
      h.1,
      (
        h.2.1,
        unsure_named no_segment d (length dropped) present s h.2.1.0.0 h.0.numbered h.2.0 h.2.2 h.2.3,
        now_after no_segment d (length dropped) present s h.2.1.0.0 h.0.numbered h.2.0 h.2.2 h.2.3,
      ),
    )
    does Renaming d dropped present (Drops s) w h = absurd h.2
    does Dropping d dropped present (Drops s) w h = let is =
        unsure_first d dropped present s h.0 h.2.1 h.2.0 in (h.0, h.1, (h.2.1, is.0, is.1))
    does Dropping d dropped present (Saves s) w h = absurd h.2
    does FlushingFolder d dropped present o w h = (
      ordered legal dropped present o h.2.0.0 h.0,
      h.2.0.1,
      now_flushed d
          (present_after o present) h.2.2,
    )

    -- it isn't done, or in part
    pub ends : (stage : Stage) (d e : Disk) (dropped present : List Segment) (o : Order) →
        Keeps stage d dropped present o → RequestMayLeave (segment_of o) (request_at stage) d e →
        HasReported e dropped present o
    ends Ended d e dropped present o h is = subst (λ x. HasReported x dropped present o) (sym is) h.2
    ends Opening d e dropped present o h (inl is) = subst (λ x. HasReported x dropped present o) (sym is) h.2
    ends Opening d e dropped present o h (inr is) = subst (λ x. HasReported x dropped present o) (sym is)
        (reported_flushed d dropped present o h.2)
    ends Resting d e dropped present o h is = inl (subst (λ x. Sure x present) (sym is) h.2)
    ends Removing d e dropped present (Drops s) h is = absurd h.2
    ends Removing d e dropped present (Saves s) h (inl is) = inl (subst (λ x. Sure x present) (sym is) h.2.0)
    ends Removing d e dropped present (Saves s) h (inr is) =
        inl (subst (λ x. Sure x present) (sym is) (sure_renamed no_segment d present None h.2.0))
    ends Creating d e dropped present (Drops s) h is = absurd h.2
    ends Creating d e dropped present (Saves s) h (inl is) = inl (subst (λ x. Sure x present) (sym is) h.2.0)
    ends Creating d e dropped present (Saves s) h (inr is) =
        inl (subst (λ x. Sure x present) (sym is) (sure_created no_segment d present h.2.0))
    ends Writing d e dropped present (Drops s) h is = absurd h.2
    ends Writing d e dropped present (Saves s) h (inl is) = inl (subst (λ x. Sure x present) (sym is) h.2.0)
    ends Writing d e dropped present (Saves s) h (inr is) =
        inl (subst (λ x. Sure x present) (sym is.1) (sure_changed d present []
        (λ f. record { bytes = is.0; flushed = false }) h.2.2 h.2.0))
    ends Flushing d e dropped present (Drops s) h is = absurd h.2
    ends Flushing d e dropped present (Saves s) h (inl is) = inl (subst (λ x. Sure x present) (sym is) h.2.0)
    ends Flushing d e dropped present (Saves s) h (inr (inl is)) =
        inl (subst (λ x. Sure x present) (sym is) (sure_changed d present s.1
        (λ f. record { bytes = f.bytes; flushed = true }) h.2.2 h.2.0))
    ends Flushing d e dropped present (Saves s) h (inr (inr is)) =
        inl (subst (λ x. Sure x present) (sym is.1) (sure_changed d present s.1
        (λ f. record { bytes = is.0; flushed = false }) h.2.2 h.2.0))
    ends Renaming d e dropped present (Drops s) h is = absurd h.2
    ends Renaming d e dropped present (Saves s) h (inl is) = inl (subst (λ x. Sure x present) (sym is) h.2.0)
    ends Renaming d e dropped present (Saves s) h (inr is) =
        inr (
          h.2.1,
          subst (λ x. Unsure x present (present ++ s ∷ [])) (sym is)
              (unsure_named no_segment d (length dropped) present s h.2.1.0.0 h.0.numbered h.2.0 h.2.2 h.2.3),
        )
    ends Dropping d e dropped present (Saves s) h is = absurd h.2
    ends Dropping d e dropped present (Drops s) h (inl is) = inl (subst (λ x. Sure x present) (sym is) h.2.0)
    ends Dropping d e dropped present (Drops s) h (inr is) =
        inr (
          h.2.1,
          subst (λ x. Unsure x present (drop 1 present)) (sym is)
              (unsure_first d dropped present s h.0 h.2.1 h.2.0).0,
        )
    ends FlushingFolder d e dropped present o h (inl is) =
        inr (h.2.0, subst (λ x. Unsure x present (present_after o present)) (sym is) h.2.1)
    ends FlushingFolder d e dropped present o h (inr is) =
        inr (
          h.2.0,
          subst (λ x. Unsure x present (present_after o present)) (sym is)
              (unsure_flushed d present (present_after o present) h.2.1),
        )
