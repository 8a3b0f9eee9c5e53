-- What a reader has read after a call.
use Rattle.std.proofs.Common.{◌≡◌, ℕ, List, [], ◌∷◌, ◌++◌, length}
use Rattle.std.proofs.Common.{append-nil, append_assoc, refl, sym, ap, ◌∙◌, subst, subst₂, arith, Option, None}
use Rattle.std.proofs.Common.{Result, Ok, Err, IfOk}
use Rattle.asm_update.specs.Fire.{Part}
use Rattle.asm_update.specs.State as state
use Rattle.asm_storage.specs.declared.history.History.{History}
use Rattle.asm_audit.specs.declared.error.AuditError.{AuditError}
use Rattle.asm_audit.specs.declared.progress.Counts.{Counts}
use Rattle.asm_audit.specs.declared.progress.Progress.{Progress}
use Rattle.asm_audit.specs.Audited.{calls_of, moves_of}
use Rattle.asm_audit.specs.Fed.{IsFed}
use Rattle.asm_run.specs.declared.end.RunEnd.{RunEnd}
use Rattle.asm_run.specs.declared.name.SegmentName.{SegmentName}
use Rattle.asm_run.specs.declared.trail.Place.TheVariants.{Between, Within}
use Rattle.asm_run.specs.declared.trail.Trail.{Trail}
use Rattle.asm_run.specs.declared.writer.Extent.{Extent}
use Rattle.asm_run.specs.Chain.{start_end, start_of, AreChained, Follows}
use Rattle.asm_run.specs.Judge.{Judges}
use Rattle.asm_run.specs.Name.{IsName}
use Rattle.asm_run.specs.Protocol.{Segment}
use Rattle.asm_run.specs.Reader.{texts_of, WasRead, HasReadParts, IsWithinParts, IsCounted}
use Rattle.asm_run.specs.Run.{AreBetween, IsExtentOf}
use Rattle.asm_run.specs.Segment.{IsTaken}
use Rattle.asm_run.proofs.Betweens.{between_push, between_count, none_between}
use Rattle.asm_run.proofs.Runs.{ends_push, one_more, texts_push, numbers, no_histories, no_segments}

abbrev pub no_counts : Counts
no_counts = record { calls = 0; moves = 0; parts = 0 }

none_left : (xs ys : List Segment) → length (xs ++ ys) ≡ 0 → (xs ≡ []) × (ys ≡ [])
none_left [] [] e = (refl, refl)
none_left [] (y ∷ ys) e = absurd (omega arith)
none_left (x ∷ xs) ys e = absurd (omega arith)

module _ (part : Part) where
  -- what was read depends on these fields alone
  pub was_same : (t u : Trail) (skipped segments : List Segment) → u.from ≡ t.from → u.since ≡ t.since →
      u.end ≡ t.end → u.counts ≡ t.counts → WasRead part t skipped segments → WasRead part u skipped segments
  was_same t u skipped segments from since end counts w = record {
    between = subst₂ (λ (a b : RunEnd). AreBetween a (skipped ++ segments) b) (sym from) (sym end) w.between;
    run = record {
      pairs = w.run.pairs;
      first = w.run.first;
      histories = w.run.histories;
      named = w.run.named;
      chained = subst₂ (λ (a b : RunEnd). AreChained a w.run.pairs b) (sym since) (sym end) w.run.chained;
      journals = w.run.journals;
      legal = w.run.legal;
    };
    calls = ap (λ (c : Counts). c.calls) counts ∙ w.calls;
    moves = ap (λ (c : Counts). c.moves) counts ∙ w.moves;
    parts = ap (λ (c : Counts). c.parts) counts ∙ w.parts;
  }

  -- no text was read
  pub no_text : (t : Trail) (skipped : List Segment) → AreBetween t.from skipped t.end → t.since ≡ t.end →
      t.counts ≡ no_counts → WasRead part t skipped []
  no_text t skipped between since counts = record {
    between = subst (λ (l : List Segment). AreBetween t.from l t.end) (sym (append-nil skipped)) between;
    run = record {
      pairs = [];
      first = state.empty;
      histories = [];
      named = tt;
      chained = sym since;
      journals = tt;
      legal = tt;
    };
    calls = ap (λ (c : Counts). c.calls) counts;
    moves = ap (λ (c : Counts). c.moves) counts;
    parts = ap (λ (c : Counts). c.parts) counts;
  }

  pub nothing_read : (t : Trail) → t.from ≡ t.end → t.since ≡ t.end → t.counts ≡ no_counts → WasRead part t [] []
  nothing_read t from since counts = no_text t [] (none_between t.from t.end (sym from)) since counts

  none_counted : (t : Trail) (skipped : List Segment) → WasRead part t skipped [] → t.counts ≡ no_counts
  none_counted t skipped w =
      let empty = no_histories w.run.pairs w.run.histories w.run.named w.run.journals in
      numbers t.counts no_counts (w.calls ∙ ap calls_of empty) (w.moves ∙ ap moves_of empty)
      (w.parts ∙ ap (λ (l : List History). length l) empty)

  none_read : (t : Trail) (skipped segments : List Segment) → t.from.segments ≡ t.end.segments →
      WasRead part t skipped segments → (skipped ≡ []) × (segments ≡ [])
  none_read t skipped segments same w =
      let count = between_count t.from (skipped ++ segments) t.end w.between in
      none_left skipped segments (omega arith)

  -- a name was read, and was the first one
  pub begun_first : (t u : Trail) (n : SegmentName) (p : Progress) (line : List ℕ) (fault : Option AuditError)
      (skipped segments : List Segment) (title : List ℕ) →
      t.from.segments ≡ t.end.segments → u.place ≡ Within → u.from ≡ start_of n → u.since ≡ start_of n →
      u.end ≡ start_of n → u.counts ≡ t.counts → IsName title u.segment.name → IsTaken u.end u.segment [] →
      HasReadParts part t p line fault skipped segments → IsWithinParts part u p line fault skipped segments title []
  begun_first t u n p line fault skipped segments title first place from since end counts is taken h =
      let none = none_read t skipped segments first h.before in
      let bare : WasRead part t skipped [] = subst (λ (l : List Segment). WasRead part t skipped l) none.1 h.before in
      let was : WasRead part u [] [] = nothing_read u (from ∙ sym end) (since ∙ sym end)
      (counts ∙ none_counted t skipped bare) in
      record {
        before = subst₂ (λ (a b : List Segment). WasRead part u a b) (sym none.0) (sym none.1) was;
        place = place;
        named = is;
        taken = taken;
        judged = subst₂ (λ (text : List ℕ) (f : Option AuditError). Judges part text p line f)
            (sym (append-nil (texts_of segments))) (sym h.open_yet) h.fed;
      }

  -- and another one
  pub begun_next : (t u : Trail) (p : Progress) (line : List ℕ) (fault : Option AuditError)
      (skipped segments : List Segment) (title : List ℕ) →
      u.place ≡ Within → u.from ≡ t.from → u.since ≡ t.since → u.end ≡ t.end → u.counts ≡ t.counts →
      IsName title u.segment.name → IsTaken u.end u.segment [] →
      HasReadParts part t p line fault skipped segments → IsWithinParts part u p line fault skipped segments title []
  begun_next t u p line fault skipped segments title place from since end counts is taken h = record {
    before = was_same t u skipped segments from since end counts h.before;
    place = place;
    named = is;
    taken = taken;
    judged = subst₂ (λ (text : List ℕ) (f : Option AuditError). Judges part text p line f)
        (sym (append-nil (texts_of segments))) (sym h.open_yet) h.fed;
  }

  -- more of the text was taken
  pub fed : (t u : Trail) (p q : Progress) (line left : List ℕ) (fault after : Option AuditError)
      (skipped segments : List Segment) (title text bytes : List ℕ) →
      u.place ≡ t.place → u.from ≡ t.from → u.since ≡ t.since → u.end ≡ t.end → u.counts ≡ t.counts →
      u.segment.name ≡ t.segment.name → (IsTaken t.end t.segment text → IsTaken t.end u.segment (text ++ bytes)) →
      ((all : List ℕ) → Judges part all p line fault → Judges part (all ++ bytes) q left after) →
      IsWithinParts part t p line fault skipped segments title text →
      IsWithinParts part u q left after skipped segments title (text ++ bytes)
  fed t u p q line left fault after skipped segments title text bytes place from since end counts name takes judges
      h = record {
        before = was_same t u skipped segments from since end counts h.before;
        place = place ∙ h.place;
        named = subst (IsName title) (sym name) h.named;
        taken = subst (λ (e : RunEnd). IsTaken e u.segment (text ++ bytes)) (sym end) (takes h.taken);
        judged = subst (λ (all : List ℕ). Judges part all q left after) (append_assoc (texts_of segments) text bytes)
            (judges (texts_of segments ++ text) h.judged);
      }

  -- the text is the next one
  pub ended : (t u : Trail) (p q : Progress) (line left : List ℕ) (fault after : Option AuditError)
      (skipped segments : List Segment) (title text : List ℕ) (new : Counts) →
      q ≡ p → left ≡ line → after ≡ fault → u.place ≡ Between → u.from ≡ t.from → u.since ≡ t.since →
      u.end ≡ t.segment.next → u.counts ≡ new → IsCounted part t fault segments text new →
      IsWithinParts part t p line fault skipped segments title text →
      HasReadParts part u q left after skipped (segments ++ (title, text) ∷ [])
  ended t u p q line left fault after skipped segments title text new same_p same_line same_fault place from since end
      counts c h =
      let follows : Follows t.end t.segment.name text u.end =
      subst (λ (e : RunEnd). Follows t.end t.segment.name text e) (sym end) c.1 in
      let more = one_more part t skipped segments text t.segment.name.moves t.segment.name.events new h.before c.2
      c.3.0 in
      let run = ends_push part t.since segments t.end u.end
      (title, text) t.segment.name h.before.run h.named follows more.history more.journal more.first more.legal in
      record {
        before = record {
          between = subst₂ (λ (a : RunEnd) (l : List Segment). AreBetween a l u.end) (sym from)
              (append_assoc skipped segments ((title, text) ∷ []))
              (between_push t.from (skipped ++ segments) t.end u.end
              (title, text) t.segment.name h.before.between h.named follows.next);
          run = record {
            pairs = run.pairs;
            first = run.first;
            histories = h.before.run.histories ++ more.history ∷ [];
            named = run.named;
            chained = subst (λ (a : RunEnd). AreChained a run.pairs u.end) (sym since) run.chained;
            journals = run.journals;
            legal = run.legal;
          };
          calls = ap (λ (x : Counts). x.calls) counts ∙ more.calls;
          moves = ap (λ (x : Counts). x.moves) counts ∙ more.fired;
          parts = ap (λ (x : Counts). x.parts) counts ∙ more.parts;
        };
        place = place;
        open_yet = same_fault ∙ c.0;
        fed = subst₂ (λ (x : Progress) (l : List ℕ). IsFed part (texts_of (segments ++ (title, text) ∷ [])) x l)
            (sym same_p) (sym same_line) (subst (λ (all : List ℕ). IsFed part all p line)
            (sym (texts_push segments (title, text))) (subst
            (Judges part (texts_of segments ++ text) p line) c.0 h.judged));
      }

  -- without texts nothing was counted
  pub no_texts : (t : Trail) (skipped segments : List Segment) → t.counts.parts ≡ 0 →
      WasRead part t skipped segments → segments ≡ []
  no_texts t skipped segments zero w =
      no_segments segments w.run.pairs w.run.histories w.run.named w.run.journals
      (empty w.run.histories (sym w.parts ∙ zero))
    where
      empty : (hs : List History) → length hs ≡ 0 → hs ≡ []
      empty [] e = refl
      empty (h ∷ hs) e = absurd (omega arith)

  -- the segment was skipped
  pub skipped_one : (t u : Trail) (p : Progress) (line : List ℕ) (fault : Option AuditError)
      (skipped segments : List Segment) (title text any : List ℕ) →
      t.counts.parts ≡ 0 → t.segment.taken ≡ 0 → fault ≡ None → u.place ≡ Between → u.from ≡ t.from →
      u.end ≡ t.segment.next → u.since ≡ t.segment.next → u.counts ≡ t.counts →
      IsWithinParts part t p line fault skipped segments title text →
      HasReadParts part u p line fault (skipped ++ (title, any) ∷ []) []
  skipped_one t u p line fault skipped segments title text any parts taken open_yet place from end since counts h =
      let none = no_texts t skipped segments parts h.before in
      let bare : WasRead part t skipped [] = subst (λ (l : List Segment). WasRead part t skipped l) none h.before in
      let between : AreBetween t.from skipped t.end = subst (λ (l : List Segment). AreBetween t.from l t.end)
      (append-nil skipped) bare.between in
      let more = between_push t.from skipped t.end t.segment.next
      (title, any) t.segment.name between h.named h.taken.next in
      let size = h.taken.taken in
      let empty : text ≡ [] = nil text (omega arith) in
      let judged : Judges part [] p line None = subst₂
      (λ (all : List ℕ) (f : Option AuditError). Judges part all p line f)
      (ap (λ (l : List Segment). texts_of l ++ text) none ∙ empty) open_yet h.judged in
      record {
        before = no_text u (skipped ++ (title, any) ∷ [])
            (subst₂ (λ (a b : RunEnd). AreBetween a (skipped ++ (title, any) ∷ []) b) (sym from) (sym end) more)
            (since ∙ sym end) (counts ∙ none_counted t skipped bare);
        place = place;
        open_yet = open_yet;
        fed = judged;
      }
    where
      nil : (xs : List ℕ) → length xs ≡ 0 → xs ≡ []
      nil [] e = refl
      nil (x ∷ xs) e = absurd (omega arith)

  -- what a writer goes on after
  pub extent_none : (t : Trail) (x : Extent) (skipped segments : List Segment) → t.from.segments ≡ t.end.segments →
      x.first ≡ 0 → x.end ≡ start_end → WasRead part t skipped segments → IsExtentOf (skipped ++ segments) x
  extent_none t x skipped segments same first end w =
      let none = none_read t skipped segments same w in
      subst₂ (λ (a b : List Segment). IsExtentOf (a ++ b) x) (sym none.0) (sym none.1) (first, end)

-- an aggregator that stays means the same
pub within_part : (p q : Part) → p ≡ q → (u : Trail) (x : Progress) (line : List ℕ) (fault : Option AuditError)
    (skipped segments : List Segment) (title text : List ℕ) →
    IsWithinParts p u x line fault skipped segments title text →
    IsWithinParts q u x line fault skipped segments title text
within_part p q e u x line fault skipped segments title text h =
    subst (λ (r : Part). IsWithinParts r u x line fault skipped segments title text) e h

pub read_part : (p q : Part) → p ≡ q → (u : Trail) (x : Progress) (line : List ℕ) (fault : Option AuditError)
    (skipped segments : List Segment) → HasReadParts p u x line fault skipped segments →
    HasReadParts q u x line fault skipped segments
read_part p q e u x line fault skipped segments h = subst
    (λ (r : Part). HasReadParts r u x line fault skipped segments) e h

pub if_ok : {T E : Type 0} (P Q : T → Type 0) (r : Result T E) → ((x : T) → P x → Q x) → IfOk r P → IfOk r Q
if_ok P Q (Ok x) f h = f x h
if_ok P Q (Err e) f h = tt
