-- What was read has one number of each kind, and leaves one state.
use Rattle.std.proofs.Common.{◌≡◌, ◌<◌, ◌≤◌, ◌⊎◌, ℕ, List, [], ◌∷◌, ◌++◌, length, Some, None, Result, Ok, Err, refl, sym, ap, subst, ◌∙◌, inl, inr, append-nil, arith}
use Rattle.std.proofs.lemmas.Bool.{cases_lt}
use Rattle.asm_update.specs.Fire.{Part, state_of}
use Rattle.asm_update.specs.State.{State}
use Rattle.asm_storage.specs.History.{fired_moves}
use Rattle.asm_storage.specs.declared.history.Event.{Event}
use Rattle.asm_storage.specs.declared.history.History.{History}
use Rattle.asm_journal.specs.declared.error.JournalError.TheVariants as journal_error
use Rattle.asm_journal.specs.Reading.{IsHeader, HasEvents}
use Rattle.asm_journal.proofs.OneHistory.{line_once, header_once}
use Rattle.asm_audit.specs.declared.error.AuditError.{AuditError}
use Rattle.asm_audit.specs.declared.error.AuditError.TheVariants.{Journal}
use Rattle.asm_audit.specs.declared.progress.Counts.{Counts}
use Rattle.asm_audit.specs.Text.{IsBegun, HasJournals}
use Rattle.asm_audit.specs.Chain.{AreLegalFrom}
use Rattle.asm_audit.specs.Fault.{counted}
use Rattle.asm_audit.specs.Audited.{calls_of, moves_of}
use Rattle.asm_audit.specs.Laws.{OneCount, OneState}
use Rattle.asm_audit.specs.Run.{all_events}
use Rattle.asm_audit.specs.SoFar.{IsOnward, IsSoFar, HasLeft}
use Rattle.asm_audit.proofs.Endings.{history}
use Rattle.asm_audit.proofs.OneJournal.{events_begin}
use Rattle.asm_audit.proofs.OneVerdict.{Stop, IsStopped, begun_some, no_line, same_place}

-- ---- a part that has begun

no_events : (v agents : ℕ) (es : List Event) → HasEvents v agents [] es [] → es ≡ []
no_events v agents [] h = refl
no_events v agents (e ∷ es) h = absurd (no_line h.2.0 h.1 h.2.1.0)

same_events : (v agents : ℕ) (text : List ℕ) (es fs : List Event) → HasEvents v agents text es [] →
    HasEvents v agents text fs [] → es ≡ fs
same_events v agents text es fs h k = by_order (cases_lt (length es) (length fs)) where
  shorter : (xs ys : List Event) → HasEvents v agents text xs [] → HasEvents v agents text ys [] →
      length xs ≤ length ys → xs ≡ ys
  shorter xs ys p q less =
      let more = events_begin v agents text xs ys [] [] p q less in
      sym (append-nil xs) ∙ ap (λ (l : List Event). xs ++ l) (sym (no_events v agents more.0 more.2)) ∙ sym more.1

  by_order : (length es < length fs) ⊎ (length fs ≤ length es) → es ≡ fs
  by_order (inl less) = shorter es fs h k (omega (arith, less))
  by_order (inr less) = sym (shorter fs es k h less)

-- two that are all of a text are the same
same_begun : (text : List ℕ) (v w count total : ℕ) (g h : History) → IsBegun v count g text [] → IsBegun w total h text [] →
    g ≡ h
same_begun text v w count total g h b c =
    let line = line_once text b.value c.value b.behind c.behind b.line c.line in
    let parts = header_once _ _ _ _ _ _ _ _ g.init h.init c.value (subst (IsHeader v g.agents g.capacity count g.init) line.0 b.header) c.header in
    let here = subst (λ (t : List ℕ). HasEvents v g.agents t g.events []) line.1 b.events in
    let known = subst (λ (a : ℕ). HasEvents v a c.behind g.events []) parts.0 here in
    let found = subst (λ (u : ℕ). HasEvents u h.agents c.behind g.events []) parts.4 known in
    let events = same_events w h.agents c.behind g.events h.events found c.events in
    ap (λ A. history A g.capacity g.agents g.events) parts.3 ∙ ap (λ p. history h.init p g.agents g.events) parts.1
    ∙ ap (λ a. history h.init h.capacity a g.events) parts.0 ∙ ap (history h.init h.capacity h.agents) events

-- ---- the end of the complete parts

record EndsAt (part : Part) (text : List ℕ) (whole : List History) (rest : List ℕ) : Type 0 where
  reported : Result Counts AuditError
  stopped : IsStopped part text reported
  all : stopped.hs ≡ whole
  left : stopped.rest ≡ rest

module _ (part : Part) (text : List ℕ) (first : State) where
  ends_at : (whole all : List History) (f : IsSoFar part text first whole all) → EndsAt part text whole f.rest
  ends_at whole all f = by_onward whole f.has.journals f.has.legal f.onward where
    counts_of : List History → Counts
    counts_of hs =
        record { calls = counted (calls_of hs); moves = counted (moves_of hs); parts = counted (length hs) }

    stops : (hs : List History) (r : Result Counts AuditError) → HasJournals hs text f.rest → AreLegalFrom part first hs →
        Stop part first hs f.rest r → EndsAt part text hs f.rest
    stops hs r journals legal stop = record {
      reported = r;
      stopped = record {
        first = first;
        hs = hs;
        rest = f.rest;
        has = record { journals = journals; legal = legal };
        stop = stop;
      };
      all = refl;
      left = refl;
    }

    by_onward : (hs : List History) → HasJournals hs text f.rest → AreLegalFrom part first hs →
        IsOnward part first hs f.rest all → EndsAt part text hs f.rest
    by_onward [] journals legal (inl end) =
        stops [] (Err (Journal (counted 0) journal_error.Cut)) journals legal
        (refl, (λ e. cc), inl (inl end.0, λ none. refl))
    by_onward (h ∷ hs) journals legal (inl end) =
        stops (h ∷ hs) (Ok (counts_of (h ∷ hs))) journals legal (end.0, (λ e. cc), (refl, refl, refl))
    by_onward hs journals legal (inr (v, count, h, going, less, is)) =
        stops hs (Err (Journal (counted (length hs)) journal_error.Cut)) journals legal
        (refl, (λ e. cc), inr (v, count, h, [], going, less, inl refl))

-- ---- all that was read

same_histories : (part : Part) (text : List ℕ) (A B : State) (whole all parts both : List History)
    (f : IsSoFar part text A whole all) (g : IsSoFar part text B parts both) → (whole ≡ parts) × (all ≡ both)
same_histories part text A B whole all parts both f g =
    (same, by_onward f.onward g.onward)
  where
    x : EndsAt part text whole f.rest
    x = ends_at part text A whole all f

    y : EndsAt part text parts g.rest
    y = ends_at part text B parts both g

    place : (y.stopped.hs ≡ x.stopped.hs) × (x.stopped.rest ≡ y.stopped.rest)
    place = same_place part text x.reported y.reported x.stopped y.stopped

    same : whole ≡ parts
    same = sym x.all ∙ sym place.0 ∙ y.all

    here : f.rest ≡ g.rest
    here = sym x.left ∙ place.1 ∙ y.left

    by_onward : IsOnward part A whole f.rest all → IsOnward part B parts g.rest both → all ≡ both
    by_onward (inl p) (inl q) = p.1 ∙ same ∙ sym q.1
    by_onward (inl p) (inr (v, count, h, going, less, is)) =
        absurd (begun_some v count h g.rest [] going.begun (sym here ∙ p.0))
    by_onward (inr (v, count, h, going, less, is)) (inl q) =
        absurd (begun_some v count h f.rest [] going.begun (here ∙ q.0))
    by_onward (inr (v, count, h, going, less, is)) (inr (w, total, k, onward, fewer, are)) =
        let one = same_begun g.rest v w count total h k (subst (λ (t : List ℕ). IsBegun v count h t []) here going.begun) onward.begun in
        is ∙ ap (λ (l : List History). l ++ h ∷ []) same ∙ ap (λ (x : History). parts ++ x ∷ []) one ∙ sym are

abbrev whole_of : ℕ → ℕ → ℕ → Counts
whole_of c m j = record { calls = c; moves = m; parts = j }

pub one_count : OneCount
one_count part text w x p q =
    let same = same_histories part text p.first q.first p.whole p.all q.whole q.all p.so_far q.so_far in
    let calls = p.calls ∙ ap (λ l. counted (calls_of l)) same.1 ∙ sym q.calls in
    let moves = p.moves ∙ ap (λ l. counted (moves_of l)) same.1 ∙ sym q.moves in
    let parts = p.parts ∙ ap (λ (l : List History). counted (length l)) same.0 ∙ sym q.parts in
    ap (λ c. whole_of c w.moves w.parts) calls ∙ ap (λ m. whole_of x.calls m w.parts) moves
    ∙ ap (λ j. whole_of x.calls x.moves j) parts

-- the first of the histories opens with the state
opens_with : (part : Part) (text : List ℕ) (A : State) (whole all : List History) (f : IsSoFar part text A whole all)
    (k : History) (ks : List History) → all ≡ k ∷ ks → k.init ≡ A
opens_with part text A whole all f k ks is = by_onward whole f.has.legal f.onward where
  head : List History → State
  head [] = A
  head (x ∷ xs) = x.init

  by_onward : (hs : List History) → AreLegalFrom part A hs → IsOnward part A hs f.rest all → k.init ≡ A
  by_onward [] legal (inl end) = let no : [] ≡ k ∷ ks = sym end.1 ∙ is in cc (no)
  by_onward (h ∷ hs) legal (inl end) = sym (ap head (sym end.1 ∙ is)) ∙ legal.0
  by_onward [] legal (inr (v, count, h, going, less, all_is)) = sym (ap head (sym all_is ∙ is)) ∙ going.opens
  by_onward (g ∷ hs) legal (inr (v, count, h, going, less, all_is)) = sym (ap head (sym all_is ∙ is)) ∙ legal.0

one_left : (part : Part) (text : List ℕ) (s t : State) → HasLeft part text s → HasLeft part text t → s ≡ t
one_left part text s t p q = by_all p.all refl where
  same : p.all ≡ q.all
  same = (same_histories part text p.first q.first p.whole p.all q.whole q.all p.so_far q.so_far).1

  by_all : (l : List History) → p.all ≡ l → s ≡ t
  by_all [] is = absurd (p.some is)
  by_all (k ∷ ks) is =
      let first : p.first ≡ q.first = sym (opens_with part text p.first p.whole p.all p.so_far k ks is)
      ∙ opens_with part text q.first q.whole q.all q.so_far k ks (sym same ∙ is) in
      p.left ∙ ap (λ A. state_of part A (fired_moves (all_events p.all))) first
      ∙ ap (λ (l : List History). state_of part q.first (fired_moves (all_events l))) same ∙ sym q.left

-- if nothing was read, no part has begun
none_begun : (part : Part) (text : List ℕ) (A : State) (whole all : List History) (f : IsSoFar part text A whole all) →
    text ≡ [] → all ≡ []
none_begun part text A whole all f none = by_whole whole f.has.journals f.onward where
  by_whole : (hs : List History) → HasJournals hs text f.rest → IsOnward part A hs f.rest all → all ≡ []
  by_whole [] journals (inl end) = end.1
  by_whole [] journals (inr (v, count, h, going, less, is)) =
      absurd (begun_some v count h f.rest [] going.begun (sym journals ∙ none))
  by_whole (h ∷ hs) journals onward = absurd (begun_some _ _ h text journals.0 journals.1.1 none)

pub one_state : OneState
one_state part text None None p q = refl
one_state part text None (Some t) p q = absurd (q.some (none_begun part text q.first q.whole q.all q.so_far p))
one_state part text (Some s) None p q = absurd (p.some (none_begun part text p.first p.whole p.all p.so_far q))
one_state part text (Some s) (Some t) p q = ap Some (one_left part text s t p q)
