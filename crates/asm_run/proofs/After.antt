-- What a writer knows after one more event.
use Rattle.std.proofs.Common.{◌≡◌, inl, inr, ⊎_elim, ℕ, ◌+◌, ◌≤◌, List, [], ◌∷◌, ◌++◌, length, take}
use Rattle.std.proofs.Common.{append_assoc, refl, sym, ap, ◌∙◌, subst, subst₂, arith, Some}
use Rattle.std.proofs.Common.{length-append}
use Rattle.asm_update.specs.Fire.{Part}
use Rattle.asm_run.specs.declared.stage.Stage.{Stage}
use Rattle.asm_run.specs.declared.stage.Stage.TheVariants.{Ended, Opening, Resting, Removing, Creating, Writing}
use Rattle.asm_run.specs.declared.stage.Stage.TheVariants.{Flushing, Renaming, Dropping, FlushingFolder}
use Rattle.asm_run.specs.declared.end.RunEnd.{RunEnd}
use Rattle.asm_run.specs.declared.writer.Extent.{Extent}
use Rattle.asm_run.specs.declared.writer.RunWriter.{RunWriter}
use Rattle.asm_run.specs.Disk.{Disk}
use Rattle.asm_run.specs.Chain.{start_end}
use Rattle.asm_run.specs.Name.{number_in, IsDigest, IsName}
use Rattle.asm_run.specs.Protocol.{Segment, Order, Saves, Drops, World, Event, Orders, Does, Ends, Begins, Opens}
use Rattle.asm_run.specs.Protocol.{next_stage, next_world, world_after as run, present_after, dropped_after}
use Rattle.asm_run.specs.Protocol.{present_at, dropped_at, IsAtWork, AreNumbered, IsAllowed, AreAllowed}
use Rattle.asm_run.specs.Durable.{empty_world as start, reported_segments, drop_count, IsFound, IsSafe}
use Rattle.asm_run.specs.Run.{IsJournalOf, EndsAt, IsRun, Continues, AreBetween, IsExtentOf}
use Rattle.asm_run.specs.Writer.{IsExtent, Knows, IsAfter, IsSaved, IsHanded, saved_at}
use Rattle.asm_run.proofs.Betweens.{between_last, ends_once, end_digest}
use Rattle.asm_run.proofs.Orders.{IsRun as KeepsRun}
use Rattle.asm_run.proofs.Written.{number_at, name_written}
use Rattle.asm_run.proofs.Runs.{ends_push, ends_count, none_run, none_ends, run_between}
use Rattle.asm_run.proofs.Histories.{run_both, may_both, at_start, found, safe}

module _ (part : Part) where
  -- one more event
  pub then : (x : RunWriter) (events : List Event) (e : Event) → AreAllowed (IsRun part) events start →
      IsAllowed (IsRun part) (run events start) e →
      x.stage ≡ (next_world (run events start) e).stage →
      Knows part (next_world (run events start) e).stage x (next_world (run events start) e) →
      IsAfter part x (events ++ e ∷ [])
  then x events e may goes stage knows =
      let all : run (events ++ e ∷ []) start ≡ next_world (run events start) e = run_both start events (e ∷ []) in
      record {
        may = may_both (IsRun part) start events (e ∷ []) may (goes, tt);
        stage = stage ∙ ap (λ (w : World). w.stage) (sym all);
        knows = subst (λ (w : World). Knows part w.stage x w) (sym all) knows;
      }

  pub opens : (x : RunWriter) (events : List Event) → AreAllowed (IsRun part) events start →
      (run events start).stage ≡ Ended → x.stage ≡ Opening → IsAfter part x (events ++ Begins ∷ [])
  opens x events may ended stage = then x events Begins may ended stage tt

  -- the end of the last segments is the one that their names say
  same_last : (dropped : List Segment) (s : Segment) (segments : List Segment) (d e x : RunEnd) →
      EndsAt part (dropped ++ s ∷ segments) e → AreBetween d (s ∷ segments) x → e ≡ x
  same_last dropped s segments d e x r b =
      let last = between_last start_end dropped (s ∷ segments) e
      (run_between part start_end (dropped ++ s ∷ segments) e r) in
      ends_once last.0 d s segments e x last.1 b

  extent_found : (dropped segments : List Segment) (x : Extent) → AreNumbered x.first segments →
      KeepsRun (IsRun part) dropped segments → IsExtentOf segments x → IsExtent part dropped segments x
  extent_found dropped [] x are keeps is =
      let none : dropped ≡ [] = keeps.some refl in
      subst (λ (l : List Segment). IsExtent part l [] x) (sym none)
      (is.0, subst (λ (e : RunEnd). EndsAt part [] e) (sym is.1) (none_ends part))
  extent_found dropped (s ∷ segments) x are keeps is =
      let count : x.first ≡ length dropped = (let both : Some (length dropped) ≡ Some x.first = sym keeps.numbered.0 ∙
      are.0 in cc) in
      let end = same_last dropped s segments is.0 keeps.is_legal.0 x.end keeps.is_legal.1 is.2 in
      (count, subst (λ (e : RunEnd). EndsAt part (dropped ++ s ∷ segments) e) end keeps.is_legal.1)

  pub reads : (x y : RunWriter) (found_extent : Extent) (events : List Event) (segments : List Segment) →
      IsAfter part x events → IsAllowed (IsRun part) (run events start) (Opens found_extent.first segments) →
      IsExtentOf segments found_extent →
      y.stage ≡ Resting → y.saved ≡ found_extent → IsAfter part y (events ++ Opens found_extent.first segments ∷ [])
  reads x y found_extent events segments h may is stage saved =
      let all = found (IsRun part) (drop_count events) (run events start)
      (at_start (IsRun part) (none_run part) events h.may) found_extent.first segments may in
      then y events (Opens found_extent.first segments) h.may may stage
      (subst (IsExtent part (take found_extent.first (reported_segments events)) segments) (sym saved)
      (extent_found (take found_extent.first (reported_segments events)) segments found_extent may.1 all.keeps.0
      is))

  knows_rest : (x : RunWriter) (w : World) (stage : Stage) → stage ≡ Resting → Knows part stage x w →
      IsExtent part w.dropped w.present x.saved
  knows_rest x w stage is h = subst (λ (s : Stage). Knows part s x w) is h

  pub hands : (x y : RunWriter) (s : Segment) (moves events : ℕ) (history : List Event) → x.stage ≡ Resting →
      IsAfter part x history → (h : IsHanded x moves events s.1 s.0 y) → IsDigest h.name.digest →
      Continues part (reported_segments history) moves events s.1 → IsAfter part y (history ++ Orders (Saves s) ∷ [])
  hands x y s moves events history rest h handed digest next_one =
      let w = run history start in
      let name = handed.name in
      let end = handed.end in
      let at : w.stage ≡ Resting = sym h.stage ∙ rest in
      let known = knows_rest x w w.stage at h.knows in
      let before = handed.follows.next.before in
      let previous : IsDigest name.previous = subst (λ (e : RunEnd). IsDigest e.digest) before
      (end_digest (w.dropped ++ w.present) x.saved.end
      (run_between part start_end (w.dropped ++ w.present) x.saved.end known.1)) in
      let is : IsName s.0 name = subst (λ (t : List ℕ). IsName t name) (sym handed.title_is)
      (name_written name handed.follows.next.few_segments previous digest) in
      let legal = next_one.legal x.saved.end known.1 in
      let journal : IsJournalOf next_one.history name.moves name.events s.1 =
      subst₂ (λ (m v : ℕ). IsJournalOf next_one.history m v s.1) (sym handed.fired)
      (sym handed.answered) next_one.journal in
      let all = ends_push part start_end (w.dropped ++ w.present) x.saved.end end s name known.1 is handed.follows
      next_one.history journal legal.0 legal.1 in
      let number : number_in s.0 ≡ Some (length w.dropped + length w.present) =
      number_at s.0 name is ∙ ap Some (sym (ap (λ (e : RunEnd). e.segments) before) ∙
      ends_count part (w.dropped ++ w.present) x.saved.end known.1 ∙ length-append w.dropped w.present) in
      then y history (Orders (Saves s)) h.may (at, (number, (end, all)))
      (ap (λ (r : RunWriter). r.stage) handed.begun) (
        subst (IsExtent part w.dropped w.present) (sym (ap (λ (r : RunWriter). r.saved) handed.begun)) known,
        subst (IsExtent part w.dropped (w.present ++ s ∷ [])) (sym (ap (λ (r : RunWriter). r.next) handed.begun)) (
          known.0,
          subst (λ (l : List Segment). EndsAt part l end)
              (append_assoc w.dropped w.present (s ∷ [])) all,
        ),
      )

  two : (present : List Segment) → 2 ≤ length present →
      (s next : Segment) × (rest : List Segment) × (present ≡ s ∷ next ∷ rest)
  two [] h = absurd (omega arith)
  two (s ∷ []) h = absurd (omega arith)
  two (s ∷ next ∷ rest) h = (s, next, rest, refl)

  pub drops_one : (x y : RunWriter) (events : List Event) → x.stage ≡ Resting → IsAfter part x events →
      x.saved.first + 2 ≤ x.saved.end.segments →
      y.stage ≡ Dropping → y.saved ≡ x.saved → y.next ≡ record { first = x.saved.first + 1; end = x.saved.end } →
      (s : Segment) × (number_in s.0 ≡ Some x.saved.first) × IsAfter part y (events ++ Orders (Drops s) ∷ [])
  drops_one x y events rest h few stage saved next =
      let w = run events start in
      let at : w.stage ≡ Resting = sym h.stage ∙ rest in
      let known = knows_rest x w w.stage at h.knows in
      let count : x.saved.end.segments ≡ length w.dropped + length w.present =
      ends_count part (w.dropped ++ w.present) x.saved.end known.1 ∙ length-append w.dropped w.present in
      let first : x.saved.first ≡ length w.dropped = known.0 in
      let is = two w.present (omega arith) in
      let fine = at_start (IsRun part) (none_run part) events h.may in
      let numbered : AreNumbered (length w.dropped) (is.0 ∷ is.1 ∷ is.2) =
      subst (AreNumbered (length w.dropped)) is.3 fine.0.numbered in
      let more : x.saved.first + 1 ≡ length (w.dropped ++ is.0 ∷ []) =
      omega (arith, length-append w.dropped (is.0 ∷ [])) in
      let all : w.dropped ++ w.present ≡ (w.dropped ++ is.0 ∷ []) ++ present_after (Drops is.0) w.present =
      same_all w.dropped w.present is.0 is.1 is.2 is.3 in (
        is.0,
        numbered.0 ∙ ap Some (sym first),
        then y events (Orders (Drops is.0)) h.may (at, (is.1, is.2, is.3)) stage (
          subst (IsExtent part w.dropped w.present) (sym saved) known,
          subst (IsExtent part (w.dropped ++ is.0 ∷ []) (present_after (Drops is.0) w.present)) (sym next)
              (more, subst (λ (l : List Segment). EndsAt part l x.saved.end) all known.1),
        ),
      )
    where
      same_all : (dropped present : List Segment) (s next : Segment) (rest : List Segment) →
          present ≡ s ∷ next ∷ rest → dropped ++ present ≡ (dropped ++ s ∷ []) ++ present_after (Drops s) present
      same_all dropped present s next rest is = subst (λ (l : List Segment). dropped ++ l ≡
          (dropped ++ s ∷ []) ++ present_after (Drops s) l) (sym is)
          (sym (append_assoc dropped (s ∷ []) (next ∷ rest)))

  pub fails : (x y : RunWriter) (events : List Event) (d : Disk) → IsAfter part x events →
      IsAllowed (IsRun part) (run events start) (Ends d) → y.stage ≡ Ended → IsAfter part y (events ++ Ends d ∷ [])
  fails x y events d h may stage = then y events (Ends d) h.may may stage tt

  pub is_safe : (x : RunWriter) (events : List Event) → IsAfter part x events → IsSafe (IsRun part) events
  is_safe x events h = safe (IsRun part) (none_run part) events h.may

  -- both extents
  abbrev Both : RunWriter → Order → List Segment → List Segment → Type 0
  Both x o dropped present = IsExtent part dropped present x.saved × IsExtent part (dropped_after o dropped)
      (present_after o present) x.next

  done_before : (x y : RunWriter) (w : World) (s : Stage) → w.stage ≡ s →
      (dropped_at s w.order w.dropped ≡ w.dropped) → (present_at s w.order w.present ≡ w.present) →
      y.saved ≡ x.saved → y.next ≡ x.next → Both x w.order w.dropped w.present →
      Both y w.order (dropped_at w.stage w.order w.dropped) (present_at w.stage w.order w.present)
  done_before x y w s is dropped present saved next h =
      subst (λ (t : Stage). Both y w.order (dropped_at t w.order w.dropped) (present_at t w.order w.present)) (sym is)
      (subst₂ (λ (g k : List Segment). Both y w.order g k) (sym dropped) (sym present) (
        subst (IsExtent part w.dropped w.present) (sym saved) h.0,
        subst
            (IsExtent part (dropped_after w.order w.dropped) (present_after w.order w.present)) (sym next) h.1,
      ))

  done_at : (x y : RunWriter) (w : World) (s : Stage) → w.stage ≡ s → IsAtWork s → Knows part s x w →
      y.saved ≡ saved_at s x → y.next ≡ x.next → Knows part (next_stage s) y (next_world w Does)
  done_at x y w Ended is work h saved next = absurd work
  done_at x y w Opening is work h saved next = absurd work
  done_at x y w Resting is work h saved next = absurd work
  done_at x y w Removing is work h saved next = done_before x y w Removing is refl refl saved next h
  done_at x y w Creating is work h saved next = done_before x y w Creating is refl refl saved next h
  done_at x y w Writing is work h saved next = done_before x y w Writing is refl refl saved next h
  done_at x y w Flushing is work h saved next = done_before x y w Flushing is refl refl saved next h
  done_at x y w Renaming is work h saved next = done_before x y w Renaming is refl refl saved next h
  done_at x y w Dropping is work h saved next = done_before x y w Dropping is refl refl saved next h
  done_at x y w FlushingFolder is work h saved next =
      subst (λ (t : Stage). IsExtent part (dropped_at t w.order w.dropped) (present_at t w.order w.present) y.saved)
      (sym is) (subst (IsExtent part (dropped_after w.order w.dropped) (present_after w.order w.present))
      (sym saved) h.1)

  pub dones : (x y : RunWriter) (events : List Event) → IsAfter part x events → IsAtWork x.stage →
      y.stage ≡ next_stage x.stage → y.saved ≡ saved_at x.stage x → y.next ≡ x.next →
      IsAfter part y (events ++ Does ∷ [])
  dones x y events h work stage saved next =
      let w = run events start in
      then y events Does h.may (subst IsAtWork h.stage work) (stage ∙ ap next_stage h.stage)
      (subst (λ (s : Stage). Knows part s y (next_world w Does)) (ap next_stage h.stage)
      (done_at x y w x.stage (sym h.stage) work (subst (λ (s : Stage). Knows part s x w)
      (sym h.stage) h.knows) saved next))

  pub finds : (x : RunWriter) (events : List Event) (from : ℕ) (segments : List Segment) → IsAfter part x events →
      IsAllowed (IsRun part) (run events start) (Opens from segments) → IsFound (run events start) segments
  finds x events from segments h may =
      ⊎_elim (λ same. inl same.1) (λ more. inr more.2)
      (found (IsRun part) (drop_count events) (run events start)
      (at_start (IsRun part) (none_run part) events h.may) from segments may).which

  pub found_legal : (x : RunWriter) (events : List Event) (from : ℕ) (segments : List Segment) →
      IsAfter part x events → IsAllowed (IsRun part) (run events start) (Opens from segments) →
      IsRun part (take from (reported_segments events) ++ segments)
  found_legal x events from segments h may =
      (found (IsRun part) (drop_count events) (run events start)
      (at_start (IsRun part) (none_run part) events h.may) from segments may).keeps.0.is_legal

  -- the extent that is saved is the one of the folder
  saved_as : (stage : Stage) (x : RunWriter) (w : World) → Knows part stage x w → IsSaved part stage w x.saved
  saved_as Ended x w h = tt
  saved_as Opening x w h = tt
  saved_as Resting x w h = h
  saved_as Removing x w h = h.0
  saved_as Creating x w h = h.0
  saved_as Writing x w h = h.0
  saved_as Flushing x w h = h.0
  saved_as Renaming x w h = h.0
  saved_as Dropping x w h = h.0
  saved_as FlushingFolder x w h = h.0

  pub is_saved : (x : RunWriter) (events : List Event) → IsAfter part x events →
      IsSaved part x.stage (run events start) x.saved
  is_saved x events h = subst (λ (s : Stage). IsSaved part s (run events start) x.saved) (sym h.stage)
      (saved_as (run events start).stage x (run events start) h.knows)
