-- The state that the segments of a run leave.
use Rattle.std.proofs.Common.{◌≡◌, ◌≢◌, ◌⊎◌, inl, inr, ℕ, List, [], ◌∷◌, ◌++◌, length, append-nil}
use Rattle.std.proofs.Common.{append_assoc, refl, sym, ap, ◌∙◌, subst, Option, Some, None}
use Rattle.std.proofs.lemmas.List.Elements.{recursion_from_All}
use Rattle.asm_update.specs.Fire.{Part}
use Rattle.asm_update.specs.State.{State}
use Rattle.asm_storage.specs.declared.history.Event.{Event}
use Rattle.asm_storage.specs.declared.history.History.{History}
use Rattle.asm_journal.specs.Reading.{HasNoLineFeed, HasEvents}
use Rattle.asm_journal.proofs.OneHistory.{NoFeed}
use Rattle.asm_audit.specs.declared.progress.Progress.{Progress}
use Rattle.asm_audit.specs.Text.{HasJournals}
use Rattle.asm_audit.specs.Chain.{last_left}
use Rattle.asm_audit.specs.Fed.{IsFed}
use Rattle.asm_audit.specs.SoFar.{HasState, IsFedStateSoFar}
use Rattle.asm_audit.proofs.Chains.{chain_leaves}
use Rattle.asm_audit.proofs.Extended.{no_feed_inside}
use Rattle.asm_audit.proofs.OneVerdict.{begun_some}
use Rattle.asm_audit.proofs.OneSoFar.{one_state}
use Rattle.asm_run.specs.declared.end.RunEnd.{RunEnd}
use Rattle.asm_run.specs.declared.name.SegmentName.{SegmentName}
use Rattle.asm_run.specs.Protocol.{Segment}
use Rattle.asm_run.specs.Run.{AreNamed, AreJournals, IsRunFrom}
use Rattle.asm_run.specs.Reader.{texts_of, IsStateAfter}
use Rattle.asm_run.proofs.Runs.{all_journals}

-- the last byte is a line feed
abbrev EndsLf : List ℕ → Type 0
EndsLf text = (x : List ℕ) × (text ≡ x ++ 10 ∷ [])

line_end : (body after text : List ℕ) → text ≡ body ++ 10 ∷ after → (after ≡ []) ⊎ EndsLf after → EndsLf text
line_end body after text is (inl none) = (body, is ∙ ap (λ (r : List ℕ). body ++ 10 ∷ r) none)
line_end body after text is (inr (x, e)) = (
  body ++ 10 ∷ x,
  is ∙ ap (λ (r : List ℕ). body ++ 10 ∷ r) e ∙
      sym (append_assoc body (10 ∷ x) (10 ∷ [])),
)

events_end : (v agents : ℕ) (text : List ℕ) (es : List Event) (rest : List ℕ) → HasEvents v agents text es rest →
    (rest ≡ []) ⊎ EndsLf rest → (text ≡ []) ⊎ EndsLf text
events_end v agents text [] rest h end = subst (λ (t : List ℕ). (t ≡ []) ⊎ EndsLf t) (sym h) end
events_end v agents text (e ∷ es) rest h end = inr (line_end h.2.0 h.1 text h.2.1.0
    (events_end v agents h.1 es rest h.4 end))

journals_end : (hs : List History) (text rest : List ℕ) → HasJournals hs text rest → (rest ≡ []) ⊎ EndsLf rest →
    (text ≡ []) ⊎ EndsLf text
journals_end [] text rest h end = subst (λ (t : List ℕ). (t ≡ []) ⊎ EndsLf t) (sym h) end
journals_end (h ∷ hs) text rest j end =
    let b = j.1.1 in
    inr (line_end b.line.0 b.behind text b.line.1.0 (events_end j.1.0 h.agents b.behind h.events j.0 b.events
    (journals_end hs j.0 rest j.2 end)))

none_behind : (xs ys : List ℕ) → xs ++ ys ≡ [] → ys ≡ []
none_behind [] ys e = e
none_behind (x ∷ xs) ys e = absurd (let no : ⊥ = cc in no)

none_open : (ended line x : List ℕ) → ended ++ line ≡ x ++ 10 ∷ [] → HasNoLineFeed line → line ≡ []
none_open [] line x e none = absurd (no_feed_inside x []
    (subst NoFeed e (recursion_from_All (λ b. b ≢ 10) line none)))
none_open (a ∷ ended) line [] e none = none_behind ended line (let rest : ended ++ line ≡ [] = cc in rest)
none_open (a ∷ ended) line (b ∷ x) e none = none_open ended line x
    (let rest : ended ++ line ≡ x ++ 10 ∷ [] = cc in rest) none

all_ended : (ended line text : List ℕ) → ended ++ line ≡ text → HasNoLineFeed line → (text ≡ []) ⊎ EndsLf text →
    ended ≡ text
all_ended ended line text e none (inl empty) = sym (append-nil ended) ∙
    ap (λ (l : List ℕ). ended ++ l) (sym (none_behind ended line (e ∙ empty))) ∙ e
all_ended ended line text e none (inr (x, is)) = sym (append-nil ended) ∙
    ap (λ (l : List ℕ). ended ++ l) (sym (none_open ended line x (e ∙ is) none)) ∙ e

some_segments : (segments : List Segment) (pairs : List (SegmentName × List ℕ)) (hs : List History) →
    AreNamed segments pairs → AreJournals pairs hs → segments ≢ [] → hs ≢ []
some_segments [] pairs hs n j some e = some refl
some_segments (s ∷ segments) [] hs n j some e = n
some_segments (s ∷ segments) (p ∷ pairs) [] n j some e = j
some_segments (s ∷ segments) (p ∷ pairs) (h ∷ hs) n j some e = cc

module _ (part : Part) where
  of_segments : (segments : List Segment) (e end : RunEnd) (r : IsRunFrom part e segments end) → segments ≢ [] →
      HasState part (texts_of segments) (Some (last_left part r.first r.histories))
  of_segments segments e end r some = record {
    first = r.first;
    whole = r.histories;
    all = r.histories;
    so_far = record {
      rest = [];
      has = record { journals = all_journals segments r.pairs r.histories r.named r.journals; legal = r.legal };
      onward = inl (refl, refl);
    };
    some = some_segments segments r.pairs r.histories r.named r.journals some;
    left = sym (chain_leaves part r.first r.histories r.legal);
  }

  none_state : (segments : List Segment) → texts_of segments ≡ [] →
      (e end : RunEnd) (r : IsRunFrom part e segments end) → segments ≡ []
  none_state [] none e end r = refl
  none_state (s ∷ segments) none e end r = by r.pairs r.histories r.named r.journals
    where
      by : (pairs : List (SegmentName × List ℕ)) (hs : List History) → AreNamed (s ∷ segments) pairs →
          AreJournals pairs hs → s ∷ segments ≡ []
      by [] hs n j = absurd n
      by (p ∷ pairs) [] n j = absurd j
      by (p ∷ pairs) (h ∷ hs) n j = let all = all_journals (s ∷ segments) (p ∷ pairs) (h ∷ hs) n j in
          absurd (begun_some all.1.0 (length h.events) h (s.1 ++ texts_of segments) all.0 all.1.1 none)

  pub state_after : (segments : List Segment) (p : Progress) (line : List ℕ) (a b : RunEnd)
      (run : IsRunFrom part a segments b) → IsFed part (texts_of segments) p line →
      (state : Option State) → IsFedStateSoFar part p line state → IsStateAfter part segments state
  state_after segments p line a b run fed None so =
      let at = so (texts_of segments) fed in
      let whole = all_ended at.0 at.1.0 (texts_of segments) at.1.1 at.1.3
      (journals_end run.histories (texts_of segments) []
      (all_journals segments run.pairs run.histories run.named run.journals) (inl refl)) in
      none_state segments (sym whole ∙ at.2) a b run
  state_after segments p line a b run fed (Some s) so = λ e end r.
      let at = so (texts_of segments) fed in
      let whole = all_ended at.0 at.1.0 (texts_of segments) at.1.1 at.1.3
      (journals_end run.histories (texts_of segments) []
      (all_journals segments run.pairs run.histories run.named run.journals) (inl refl)) in
      let here : HasState part (texts_of segments) (Some s) =
      subst (λ (t : List ℕ). HasState part t (Some s)) whole at.2 in
      let some : segments ≢ [] = λ none. (let dropped : Some s ≡ None = one_state part (texts_of segments)
      (Some s) None here (ap texts_of none) in cc) in
      let same : Some s ≡ Some (last_left part r.first r.histories) =
      one_state part (texts_of segments) (Some s) (Some (last_left part r.first r.histories)) here
      (of_segments segments e end r some) in
      (let known : s ≡ last_left part r.first r.histories = cc in known)
