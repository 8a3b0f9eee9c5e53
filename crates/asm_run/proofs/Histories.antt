-- The same over histories of a folder.
use Rattle.std.proofs.Common.{◌≡◌, ◌≢◌, inl, inr, ⊎_elim, ℕ, ◌+◌, ◌≤◌, List, [], ◌∷◌, ◌++◌, length}
use Rattle.std.proofs.Common.{length-append, refl, sym, ap, ◌∙◌, subst, arith, None}
use Rattle.asm_run.specs.declared.stage.Stage.{Stage}
use Rattle.asm_run.specs.declared.stage.Stage.TheVariants.{Ended, Opening, Resting, Removing, Creating, Writing}
use Rattle.asm_run.specs.declared.stage.Stage.TheVariants.{Flushing, Renaming, Dropping, FlushingFolder}
use Rattle.asm_run.specs.Name.{number_in}
use Rattle.asm_run.specs.Disk.{Disk, Remove, disk_after as after}
use Rattle.asm_run.specs.Protocol.{Segment, Order, Saves, Drops, World, Event, Orders, Does, Ends, Power_fails}
use Rattle.asm_run.specs.Protocol.{Cleans, Begins, Opens, new_name, present_after, dropped_after, present_at}
use Rattle.asm_run.specs.Protocol.{dropped_at, next_world, world_after as run, IsAllowed, AreAllowed}
use Rattle.asm_run.specs.Durable.{empty_world as start, reported_segments, drop_count_of, drop_count}
use Rattle.asm_run.specs.Durable.{CrashMayLeave, Survives, IsSafe}
use Rattle.asm_run.proofs.Folders.{IsAt}
use Rattle.asm_run.proofs.Orders.{IsPrefixOf, same_prefix, more_prefix, order_reported, ordered, IsRun}
use Rattle.asm_run.proofs.Steps.{At, Keeps, HasReported, HoldsOne, does, ends, opened, reported_left}
use Rattle.asm_run.proofs.Steps.{reported_cleaned, holds_reported, IsFound}

pub no_segment : number_in new_name ≡ None
unfolding number_in
no_segment = refl

-- a history after another one
pub run_both : (w : World) (events more : List Event) → run (events ++ more) w ≡ run more (run events w)
run_both w [] more = refl
run_both w (e ∷ events) more = run_both (next_world w e) events more

pub drops_both : (events more : List Event) → drop_count (events ++ more) ≡ drop_count events + drop_count more
drops_both [] more = let e : drop_count more ≡ 0 + drop_count more = omega arith in e
drops_both (e ∷ events) more = let h = drops_both events more in
    let k : drop_count_of e + drop_count (events ++ more) ≡ drop_count_of e + drop_count events + drop_count more =
    omega arith in k

module _ (legal : List Segment → Type 0) where
  pub may_both : (w : World) (events more : List Event) → AreAllowed legal events w →
      AreAllowed legal more (run events w) → AreAllowed legal (events ++ more) w
  may_both w [] more p q = q
  may_both w (e ∷ events) more p q = (p.0, may_both (next_world w e) events more p.1 q)

  abbrev pub Fine : ℕ → World → Type 0
  Fine n w = Keeps legal n w.stage w.disk w.dropped w.present w.order

  reported_at : (n : ℕ) (stage : Stage) (w : World) → w.stage ≡ stage → Fine n w →
      At legal n stage w.disk w.dropped w.present w.order
  reported_at n stage w is fine = subst (λ (s : Stage). At legal n s w.disk w.dropped w.present w.order) is fine.2

  pub found : (n : ℕ) (w : World) → Fine n w → (from : ℕ) (segments : List Segment) →
      IsAllowed legal w (Opens from segments) → IsFound legal n w.disk w.dropped w.present w.order from segments
  found n w fine from segments may = opened legal n w.disk w.dropped w.present w.order fine.0 fine.1
      (reported_at n Opening w may.0 fine) from segments may.1 may.2

  -- an order is given
  orders : (n : ℕ) (w : World) (o : Order) → Fine n w → IsAllowed legal w (Orders o) →
      Fine (drop_count_of (Orders o) + n) (next_world w (Orders o))
  orders n w (Saves s) fine may =
      let few : length w.dropped ≤ 0 + n = (let h = fine.1 in omega arith) in
      (fine.0, few, (reported_at n Resting w may.0 fine, (may.1, few)))
  orders n w (Drops s) fine may =
      let few : length w.dropped ≤ 1 + n = (let h = fine.1 in omega arith) in
      let more : length (w.dropped ++ s ∷ []) ≤ 1 + n =
      (let h = fine.1 in omega (arith, length-append w.dropped (s ∷ []))) in
      (fine.0, few, (reported_at n Resting w may.0 fine, (may.1, more)))

  same_count : (n : ℕ) (w : World) → Fine n w → Fine (0 + n) w
  same_count n w fine = subst (λ (m : ℕ). Fine m w) (let e : n ≡ 0 + n = omega arith in e) fine

  -- an event keeps it
  pub step : (n : ℕ) (w : World) (e : Event) → Fine n w → IsAllowed legal w e →
      Fine (drop_count_of e + n) (next_world w e)
  step n w (Orders o) fine may = orders n w o fine may
  step n w Does fine may = same_count n (next_world w Does)
      (does legal n no_segment w.stage w.disk w.dropped w.present w.order may fine)
  step n w (Ends d) fine may = same_count n (next_world w (Ends d))
      (fine.0, fine.1, ends legal n no_segment w.stage w.disk d w.dropped w.present w.order fine may)
  step n w (Power_fails d) fine may =
      same_count n (next_world w (Power_fails d)) (
        fine.0,
        fine.1,
        reported_left legal n may.0 d w.dropped w.present
            w.order may.2 (ends legal n no_segment w.stage w.disk may.0 w.dropped w.present w.order fine may.1),
      )
  step n w Cleans fine may =
      same_count n (next_world w Cleans) (
        fine.0,
        fine.1,
        subst
            (λ (s : Stage). At legal n s (after (Remove new_name) w.disk) w.dropped w.present w.order) (sym may)
            (reported_cleaned legal n no_segment w.disk w.dropped w.present w.order (reported_at n Ended w may fine)),
      )
  step n w Begins fine may = same_count n (next_world w Begins) (fine.0, fine.1, reported_at n Ended w may fine)
  step n w (Opens from segments) fine may = same_count n (next_world w (Opens from segments))
      (found n w fine from segments may).keeps

  pub steps : (n : ℕ) (w : World) (events : List Event) → Fine n w → AreAllowed legal events w →
      Fine (drop_count events + n) (run events w)
  steps n w [] fine may = same_count n w fine
  steps n w (e ∷ events) fine may =
      subst (λ (m : ℕ). Fine m (run events (next_world w e)))
      (let k : drop_count events + (drop_count_of e + n) ≡ drop_count_of e + drop_count events + n = omega arith
      in k)
      (steps (drop_count_of e + n) (next_world w e) events (step n w e fine may.0) may.1)

  abbrev Reported : World → List Segment
  Reported w = w.dropped ++ w.present

  reported_prefix : (n : ℕ) (stage : Stage) (d : Disk) (dropped present : List Segment) (o : Order) →
      Keeps legal n stage d dropped present o → IsPrefixOf (dropped ++ present)
      (dropped_at stage o dropped ++ present_at stage o present)
  reported_prefix n FlushingFolder d dropped present o h = order_reported legal dropped present o h.2.0.0
  reported_prefix n Ended d dropped present o h = same_prefix (dropped ++ present)
  reported_prefix n Opening d dropped present o h = same_prefix (dropped ++ present)
  reported_prefix n Resting d dropped present o h = same_prefix (dropped ++ present)
  reported_prefix n Removing d dropped present o h = same_prefix (dropped ++ present)
  reported_prefix n Creating d dropped present o h = same_prefix (dropped ++ present)
  reported_prefix n Writing d dropped present o h = same_prefix (dropped ++ present)
  reported_prefix n Flushing d dropped present o h = same_prefix (dropped ++ present)
  reported_prefix n Renaming d dropped present o h = same_prefix (dropped ++ present)
  reported_prefix n Dropping d dropped present o h = same_prefix (dropped ++ present)

  grows : (n : ℕ) (w : World) (e : Event) → Fine n w → IsAllowed legal w e →
      IsPrefixOf (Reported w) (Reported (next_world w e))
  grows n w (Orders (Saves s)) fine may = same_prefix (Reported w)
  grows n w (Orders (Drops s)) fine may = same_prefix (Reported w)
  grows n w Does fine may = reported_prefix n w.stage w.disk w.dropped w.present w.order fine
  grows n w (Ends d) fine may = same_prefix (Reported w)
  grows n w (Power_fails d) fine may = same_prefix (Reported w)
  grows n w Cleans fine may = same_prefix (Reported w)
  grows n w Begins fine may = same_prefix (Reported w)
  grows n w (Opens from segments) fine may =
      ⊎_elim
      (λ same. subst (λ (g : List Segment). IsPrefixOf (Reported w) (g ++ segments)) (sym same.0)
      (subst (λ (l : List Segment). IsPrefixOf (Reported w) (w.dropped ++ l)) (sym same.1)
      (same_prefix (Reported w))))
      (λ more. subst (λ (g : List Segment). IsPrefixOf (Reported w) (g ++ segments)) (sym more.1)
      (subst (λ (l : List Segment). IsPrefixOf (Reported w) (dropped_after w.order w.dropped ++ l)) (sym more.2)
      (order_reported legal w.dropped w.present w.order more.0)))
      (found n w fine from segments may).which

  grow : (n : ℕ) (w : World) (events : List Event) → Fine n w → AreAllowed legal events w →
      IsPrefixOf (Reported w) (Reported (run events w))
  grow n w [] fine may = same_prefix (Reported w)
  grow n w (e ∷ events) fine may =
      more_prefix (Reported w) (Reported (next_world w e)) (Reported (run events (next_world w e)))
      (grows n w e fine may.0) (grow (drop_count_of e + n) (next_world w e) events (step n w e fine may.0) may.1)

  module _ (empty : legal []) where
    begun : Fine 0 start
    begun = (
      record { numbered = tt; is_legal = empty; some = λ e. refl },
      (let z : 0 ≤ 0 = omega arith in z),
      inl
          (λ n k is to led. ⊎_elim (λ here. subst (λ o. IsAt start.disk o None) (sym here) tt)
          (λ none. absurd none) led),
    )

    pub at_start : (events : List Event) → AreAllowed legal events start → Fine (drop_count events) (run events start)
    at_start events may = subst (λ (m : ℕ). Fine m (run events start))
        (let e : drop_count events + 0 ≡ drop_count events = omega arith in e) (steps 0 start events begun may)

    -- what a process or a power failure leaves
    left : (n : ℕ) (w : World) (d : Disk) → Fine n w → CrashMayLeave legal w d →
        HasReported legal n d w.dropped w.present w.order
    left n w d fine (inl ended) = ends legal n no_segment w.stage w.disk d w.dropped w.present w.order fine ended
    left n w d fine (inr failed) = reported_left legal n failed.0 d w.dropped w.present w.order failed.2
        (ends legal n no_segment w.stage w.disk failed.0 w.dropped w.present w.order fine failed.1)

    none_present : (reported_segments dropped present : List Segment) →
        IsPrefixOf reported_segments (dropped ++ present) → IsRun legal dropped present → reported_segments ≢ [] →
        present ≢ []
    none_present [] dropped present begins run some e = some refl
    none_present (s ∷ reported_segments) dropped present begins run some e =
        let none : dropped ≡ [] = run.some e in
        let all : dropped ++ present ≡ [] = ap (λ (g : List Segment). g ++ present) none ∙ e in
        let no : s ∷ (reported_segments ++ begins.0) ≡ [] = begins.1 ∙ all in
        let never : ⊥ = cc in never

    survives : (n : ℕ) (reported_segments : List Segment) (w : World) (d : Disk) → Fine n w →
        IsPrefixOf reported_segments (Reported w) → HoldsOne legal n d w.dropped w.present w.order →
        Survives legal reported_segments n d
    survives n reported_segments w d fine begins (inl holds) = record {
      dropped = w.dropped;
      present = w.present;
      rest = begins.0;
      holds = holds;
      is_legal = fine.0.is_legal;
      begins = begins.1;
      few = fine.1;
      some = none_present reported_segments w.dropped w.present begins fine.0;
    }
    survives n reported_segments w d fine begins (inr h) =
        let next = ordered legal w.dropped w.present w.order h.0.0 fine.0 in
        let all = more_prefix reported_segments (Reported w)
        (dropped_after w.order w.dropped ++ present_after w.order w.present) begins
        (order_reported legal w.dropped w.present w.order h.0.0) in
        record {
          dropped = dropped_after w.order w.dropped;
          present = present_after w.order w.present;
          rest = all.0;
          holds = h.1;
          is_legal = next.is_legal;
          begins = all.1;
          few = h.0.1;
          some = none_present reported_segments (dropped_after w.order w.dropped)
              (present_after w.order w.present) all next;
        }

    pub safe : (events : List Event) → AreAllowed legal events start → IsSafe legal events
    safe events may more d goes leaves =
        let w = run events start in
        let fine = at_start events may in
        let all : drop_count more + drop_count events ≡ drop_count (events ++ more) =
        (let h = drops_both events more in omega arith) in
        let last = subst (λ (m : ℕ). Fine m (run more w)) all (steps (drop_count events) w more fine goes) in
        survives (drop_count (events ++ more)) (reported_segments events) (run more w) d last
        (grow (drop_count events) w more fine goes)
        (holds_reported legal (drop_count (events ++ more)) d (run more w).dropped (run more w).present
        (run more w).order last.0 (left (drop_count (events ++ more)) (run more w) d last leaves))
