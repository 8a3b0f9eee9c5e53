-- A run of which a window is traced, one line further.
use Rattle.std.proofs.Common.{◌≡◌, ◌≢◌, ◌+◌, ◌≤◌, ◌<◌, ◌⊎◌, ℕ, zero, suc, true, List, [], ◌∷◌, ◌++◌, length, Some, refl, sym, ap, subst, ◌∙◌, inl, inr, append-nil, append_assoc, arith}
use Rattle.std.proofs.lemmas.List.{length_push}
use Rattle.std.proofs.lemmas.Bool.{cases_lt}
use Rattle.asm_aggregate.specs.Standard.{standard_part}
use Rattle.asm_update.specs.State.{State}
use Rattle.asm_update.specs.State as plain
use Rattle.asm_state.specs.FollowsFrom.{FollowsFrom}
use Rattle.asm_storage.specs.History.{fired_moves}
use Rattle.asm_storage.specs.declared.history.Event.{Event}
use Rattle.asm_storage.specs.declared.history.History.{History}
use Rattle.asm_journal.specs.Check.{machine}
use Rattle.asm_journal.specs.Fault.{BreaksHeader, BreaksEvent}
use Rattle.asm_journal.specs.Reading.{HasNoLineFeed, EndsLine}
use Rattle.asm_journal.specs.declared.error.JournalError.{JournalError}
use Rattle.asm_journal.specs.declared.error.JournalError.TheVariants as journal_error
use Rattle.asm_journal.specs.declared.parsing.Header.{Header}
use Rattle.asm_journal.specs.declared.parsing.Limits.{Limits}
use Rattle.asm_audit.specs.declared.part_auditor.PartAuditor.{PartAuditor}
use Rattle.asm_audit.specs.declared.progress.Counts.{Counts}
use Rattle.asm_audit.specs.declared.error.AuditError.{AuditError}
use Rattle.asm_audit.specs.Text.{IsLineBefore, IsBegun}
use Rattle.asm_audit.specs.Chain.{IsGoing}
use Rattle.asm_audit.specs.Fault.{part_fault, IsFaulty}
use Rattle.asm_audit.specs.PartAuditor.{history_of, BreaksHeaderOf, IsJudged, IsNotTaken}
use Rattle.asm_audit.specs.Audited.{IsAudited}
use Rattle.asm_audit.proofs.Extended.{begun_more, begun_push, line_more, line_before, header_fault, event_fault}
use Rattle.asm_audit.proofs.Chains.{legal_none, legal_push, moves_push}
use Rattle.asm_audit.proofs.Steps.{event_wrong, event_broken}
use Rattle.asm_audit.proofs.OneVerdict.{no_line, begun_some}
use Rattle.asm_driver.specs.Audit.{refusal_of_audit}
use Rattle.asm_driver.specs.Parts.{HasLines, HasHeaderLine, HasSegment, HasSegments, HasSomeLines, IsSkipping, IsPartRead, IsBadAlone, IsBadBehind}
use Rattle.asm_driver.specs.Lines.{IsLongLine}
use Rattle.asm_driver.specs.Window.{IsBadWindow}
use Rattle.asm_driver.specs.declared.program.refusal.Refusal.TheVariants as refusal
use Rattle.asm_driver.specs.declared.program.words.Window.{Window}

-- ---- segments

ends_more : (text body rest more : List ℕ) → EndsLine text body rest → EndsLine (text ++ more) body (rest ++ more)
ends_more text body rest more h = (ap (λ x. x ++ more) h.0 ∙ append_assoc body (10 ∷ rest) more, h.1)

lines_more : (n : ℕ) (text rest more : List ℕ) → HasLines n text rest → HasLines n (text ++ more) (rest ++ more)
lines_more zero text rest more h = ap (λ x. x ++ more) h
lines_more (suc n) text rest more h = (h.0, h.1 ++ more, ends_more text h.0 h.1 more h.2, lines_more n h.1 rest more h.3)

lines_push : (n : ℕ) (text mid body rest : List ℕ) → HasLines n text mid → EndsLine mid body rest → HasLines (suc n) text rest
lines_push zero text mid body rest h ends = (body, rest, subst (λ t. EndsLine t body rest) (sym h) ends, refl)
lines_push (suc n) text mid body rest h ends = (h.0, h.1, h.2, lines_push n h.1 mid body rest h.3 ends)

header_more : (h : Header) (text rest more : List ℕ) → HasHeaderLine h text rest → HasHeaderLine h (text ++ more) (rest ++ more)
header_more h text rest more (d, line, form) = (d, line_more text d rest more line, form)

segment_more : (text rest more : List ℕ) → HasSegment text rest → HasSegment (text ++ more) (rest ++ more)
segment_more text rest more (h, behind, line, lines) =
    (h, behind ++ more, header_more h text behind more line, lines_more h.limits.events behind rest more lines)

pub segments_more : (n : ℕ) (text rest more : List ℕ) → HasSegments n text rest → HasSegments n (text ++ more) (rest ++ more)
segments_more zero text rest more h = ap (λ x. x ++ more) h
segments_more (suc n) text rest more (after, first, h) =
    (after ++ more, segment_more text after more first, segments_more n after rest more h)

segments_push : (n : ℕ) (text rest after : List ℕ) → HasSegments n text rest → HasSegment rest after → HasSegments (suc n) text after
segments_push zero text rest after h segment = (after, subst (λ t. HasSegment t after) (sym h) segment, refl)
segments_push (suc n) text rest after (mid, first, h) segment = (mid, first, segments_push n mid rest after h segment)

-- ---- a segment that is passed

pub skipping_none : (number : ℕ) (h : Header) (text line : List ℕ) → HasSegments number text [] → HasHeaderLine h line [] →
    IsSkipping number h 0 (text ++ line)
skipping_none number h text line has header = (line, [], segments_more number text [] line has, header, refl)

pub skipping_all : (number n : ℕ) (h : Header) (text : List ℕ) → h.limits.events ≡ n → IsSkipping number h n text →
    HasSegments (number + 1) text []
skipping_all number n h text all (rest, behind, has, header, lines) =
    let next : suc number ≡ number + 1 = omega arith in
    subst (λ k. HasSegments k text []) next
    (segments_push number text rest [] has (h, behind, header, subst (λ k. HasLines k behind []) (sym all) lines))

module _ (number n : ℕ) (h : Header) (text : List ℕ) (s : IsSkipping number h n text) where
  pub skipping_more : (line body : List ℕ) → EndsLine line body [] → IsSkipping number h (suc n) (text ++ line)
  skipping_more line body ends = (
    s.0 ++ line,
    s.1 ++ line,
    segments_more number text s.0 line s.2,
    header_more h s.0 s.1 line s.3,
    lines_push n (s.1 ++ line) line body [] (lines_more n s.1 [] line s.4) ends,
  )

  module _ (less : n < h.limits.events) where
    some_lines : (tail : List ℕ) → HasSomeLines (s.0 ++ tail) tail
    some_lines tail = (h, s.1 ++ tail, n, header_more h s.0 s.1 tail s.3, lines_more n s.1 [] tail s.4, less)

    pub skipping_inside : (rest : List ℕ) × HasSegments number text rest × HasSomeLines rest []
    skipping_inside = (s.0, s.2, (h, s.1, n, s.3, s.4, less))

    no_rest : (tail : List ℕ) → s.0 ++ tail ≡ [] → ⊥
    no_rest tail e =
        let line = (header_more h s.0 s.1 tail s.3).1 in
        no_line line.0 (s.1 ++ tail) (sym e ∙ line.1.0)

    module _ (w : Window) (before : number < w.part) where
      -- a line is missing
      pub skipping_cut : (tail : List ℕ) → HasNoLineFeed tail → IsBadWindow w (text ++ tail) (refusal.BadPart number journal_error.Cut)
      skipping_cut tail none = inr (
        number,
        before,
        (
          s.0 ++ tail,
          segments_more number text s.0 tail s.2,
          (λ e. absurd (no_rest tail e)),
          (refl, inr (refl, (tail, some_lines tail, none))),
        ),
      )

      -- or too long
      pub skipping_long : (long more : List ℕ) → IsLongLine long → IsBadWindow w (text ++ (long ++ more)) refusal.TooLarge
      skipping_long long more is = inr (
        number,
        before,
        (
          s.0 ++ (long ++ more),
          segments_more number text s.0 (long ++ more) s.2,
          (λ e. absurd (no_rest (long ++ more) e)),
          inr (long ++ more, some_lines (long ++ more), (long, more, refl, is.0, is.1)),
        ),
      )

-- ---- lines

-- a line, and what follows it; or nothing at all
abbrev pub IsLineOf : List ℕ → List ℕ → Type 0
IsLineOf line rest = IsLineBefore line rest ⊎ ((line ≡ []) × (rest ≡ []))

-- nothing at all
nothing_of : (P : List ℕ → Type 0) (line rest : List ℕ) → line ≡ [] → rest ≡ [] → P line → P (line ++ rest)
nothing_of P line rest none end h = subst P (sym (ap (λ x. line ++ x) end ∙ append-nil line)) h

header_breaks : (line rest : List ℕ) (fault : JournalError) → IsLineOf line rest → BreaksHeader line fault →
    BreaksHeader (line ++ rest) fault
header_breaks line rest fault (inl is) h = header_fault line rest fault is h
header_breaks line rest fault (inr (none, end)) h = nothing_of (λ t. BreaksHeader t fault) line rest none end h

event_breaks : (line rest : List ℕ) (v agents k : ℕ) (fault : JournalError) → IsLineOf line rest →
    BreaksEvent v agents k line fault → BreaksEvent v agents k (line ++ rest) fault
event_breaks line rest v agents k fault (inl is) h = event_fault line rest v agents k fault is h
event_breaks line rest v agents k fault (inr (none, end)) h =
    nothing_of (λ t. BreaksEvent v agents k t fault) line rest none end h

-- ---- the header of the next segment

module _ (w : Window) (number : ℕ) (text : List ℕ) (has : HasSegments number text []) (most : number ≤ w.part) where
  -- a fault is one of a segment that can't be passed, or of the window's one
  module _ (line rest : List ℕ) (is : IsLineOf line rest) (some : line ≡ [] → number ≡ 0) where
    here : HasSegments number (text ++ (line ++ rest)) (line ++ rest)
    here = segments_more number text [] (line ++ rest) has

    none : line ++ rest ≡ [] → number ≡ 0
    none e = some (front line rest e) where
      front : (xs ys : List ℕ) → xs ++ ys ≡ [] → xs ≡ []
      front [] ys e = refl
      front (x ∷ xs) ys e = absurd cc

    bad_header : (fault : JournalError) → fault ≢ journal_error.Memory → BreaksHeader line fault →
        (number < w.part) ⊎ (w.part ≤ number) → IsBadWindow w (text ++ (line ++ rest)) (refusal.BadPart number fault)
    bad_header fault other breaks (inl less) =
        inr (number, less, (line ++ rest, here, none, (refl, inl (other, header_breaks line rest fault is breaks))))
    bad_header fault other breaks (inr all) =
        let same : number ≡ w.part = omega (arith, all, most) in
        inl (
          line ++ rest,
          subst (λ n. HasSegments n (text ++ (line ++ rest)) (line ++ rest)) same here,
          (λ e. sym same ∙ none e),
          (
            same,
            (
              other,
              record {
                first = plain.empty;
                before = [];
                rest = line ++ rest;
                has = record { journals = refl; legal = tt };
                numbered = refl;
                next = inl (header_breaks line rest fault is breaks, λ e. refl);
              },
            ),
          ),
        )

    pub header_refused : (e : AuditError) → BreaksHeaderOf number line e → IsBadWindow w (text ++ (line ++ rest)) (refusal_of_audit e)
    header_refused e (fault, same, breaks) =
        subst (λ x. IsBadWindow w (text ++ (line ++ rest)) (refusal_of_audit x)) (sym same) (by_fault fault breaks) where
          by_fault : (f : JournalError) → BreaksHeader line f → IsBadWindow w (text ++ (line ++ rest)) (refusal_of_audit (part_fault number f))
          by_fault (journal_error.NotJson k) breaks = bad_header (journal_error.NotJson k) (λ e. cc) breaks (cases_lt number w.part)
          by_fault (journal_error.Shape k) breaks = bad_header (journal_error.Shape k) (λ e. cc) breaks (cases_lt number w.part)
          by_fault journal_error.Version breaks = bad_header journal_error.Version (λ e. cc) breaks (cases_lt number w.part)
          by_fault journal_error.Cut breaks = bad_header journal_error.Cut (λ e. cc) breaks (cases_lt number w.part)
          by_fault journal_error.Memory breaks = inl tt

  -- the header is too long
  pub header_long : (long more : List ℕ) → IsLongLine long → IsBadWindow w (text ++ (long ++ more)) refusal.TooLarge
  header_long long more is = by_order (cases_lt number w.part) where
    all : HasSegments number (text ++ (long ++ more)) (long ++ more)
    all = segments_more number text [] (long ++ more) has

    some : (xs ys : List ℕ) → IsLongLine xs → xs ++ ys ≡ [] → ⊥
    some [] ys long e = let most = long.1 in omega (arith, most)
    some (x ∷ xs) ys long e = cc

    by_order : (number < w.part) ⊎ (w.part ≤ number) → IsBadWindow w (text ++ (long ++ more)) refusal.TooLarge
    by_order (inl less) =
        inr (number, less, (long ++ more, all, (λ e. absurd (some long more is e)), inl (long, more, refl, is.0, is.1)))
    by_order (inr past) =
        let same : number ≡ w.part = omega (arith, past, most) in
        inl (
          long ++ more,
          subst (λ n. HasSegments n (text ++ (long ++ more)) (long ++ more)) same all,
          (λ e. absurd (some long more is e)),
          record {
            first = plain.empty;
            before = [];
            rest = long ++ more;
            has = record { journals = refl; legal = tt };
            numbered = refl;
            next = inl (long, more, refl, is.0, is.1);
          },
        )

-- the header of the window's segment
pub part_opened : (number : ℕ) (text line : List ℕ) (h : Header) (o : PartAuditor) → HasSegments number text [] →
    HasHeaderLine h line [] → o.number ≡ number → o.limits ≡ h.limits → o.taken ≡ 0 →
    FollowsFrom standard_part h.init o.state [] → IsPartRead number (text ++ line) o h.init []
part_opened number text line h o has (d, first, form) known limits taken stands = record {
  rest = line;
  has = segments_more number text [] line has;
  going = subst (λ (l : Limits). IsGoing standard_part h.init l.version l.events (history_of l h.init []) line []) (sym limits)
      (record {
        begun = record { value = d; behind = []; line = first; header = form; events = refl };
        opens = refl;
        legal = legal_none (machine standard_part h.init h.limits.capacity);
      });
  known = known;
  taken = taken;
  within = omega (arith, taken);
  stands = stands;
}

-- ---- the segment that is read

-- the same segment, as the first of a run
abbrev pub alone : PartAuditor → PartAuditor
alone o = record { number = 0; limits = o.limits; taken = o.taken; state = o.state }

module _ (number : ℕ) (text : List ℕ) (o : PartAuditor) (A : State) (es : List Event) (p : IsPartRead number text o A es) where
  abbrev w : Counts
  w = record { calls = 0; moves = 0; parts = 0 }

  read : IsAudited standard_part p.rest (record { before = w; current = Some (alone o) })
  read = record {
    first = A;
    before = [];
    rest = p.rest;
    has = record { journals = refl; legal = tt };
    counts = (refl, refl, refl);
    next = record { events = es; going = p.going; numbered = refl; taken = p.taken; within = p.within; stands = p.stands };
  }

  abbrev h : History
  h = history_of o.limits A es

  begun_with : (more : List ℕ) → IsBegun o.limits.version o.limits.events h (p.rest ++ more) more
  begun_with more = begun_more o.limits.version o.limits.events h p.rest [] more p.going.begun

  some : (more : List ℕ) → p.rest ++ more ≡ [] → ⊥
  some more e = begun_some o.limits.version o.limits.events h (p.rest ++ more) more (begun_with more) e

  bad_fault : (more : List ℕ) (fault : JournalError) → IsFaulty standard_part (p.rest ++ more) (part_fault 0 fault) →
      IsBadBehind IsBadAlone number (text ++ more) (refusal_of_audit (part_fault o.number fault))
  bad_fault more (journal_error.NotJson k) is =
      (p.rest ++ more, segments_more number text p.rest more p.has, (λ e. absurd (some more e)), (p.known, is))
  bad_fault more (journal_error.Shape k) is =
      (p.rest ++ more, segments_more number text p.rest more p.has, (λ e. absurd (some more e)), (p.known, is))
  bad_fault more journal_error.Version is =
      (p.rest ++ more, segments_more number text p.rest more p.has, (λ e. absurd (some more e)), (p.known, is))
  bad_fault more journal_error.Cut is =
      (p.rest ++ more, segments_more number text p.rest more p.has, (λ e. absurd (some more e)), (p.known, is))
  bad_fault more journal_error.Memory is = tt

  -- a line that is too long
  pub part_long : (long more : List ℕ) → IsLongLine long → IsBadBehind IsBadAlone number (text ++ (long ++ more)) refusal.TooLarge
  part_long long more is = (
    p.rest ++ (long ++ more),
    segments_more number text p.rest (long ++ more) p.has,
    (λ e. absurd (some (long ++ more) e)),
    record {
      first = A;
      before = [];
      rest = p.rest ++ (long ++ more);
      has = record { journals = refl; legal = tt };
      numbered = refl;
      next = inr (
        o.limits.version,
        o.limits.events,
        h,
        long ++ more,
        record { begun = begun_with (long ++ more); opens = p.going.opens; legal = p.going.legal },
        (long, more, refl, is.0, is.1),
      );
    },
  )

  -- ---- an event

  module _ (less : o.taken < o.limits.events) (line : List ℕ) where
    pub event_refused : (rest : List ℕ) (e : AuditError) → IsLineOf line rest → IsNotTaken standard_part line o e →
        IsBadBehind IsBadAlone number (text ++ (line ++ rest)) (refusal_of_audit e)
    event_refused rest e is (inl (fault, same, breaks)) =
        subst (λ x. IsBadBehind IsBadAlone number (text ++ (line ++ rest)) (refusal_of_audit x)) (sym same)
        (bad_fault (line ++ rest) fault
        (event_broken standard_part p.rest w (alone o) read (line ++ rest) fault less
        (event_breaks line rest o.limits.version o.limits.agents (o.taken + 2) fault is breaks)))
    event_refused rest e (inl is) (inr (same, (event, t))) =
        subst (λ x. IsBadBehind IsBadAlone number (text ++ (line ++ rest)) (refusal_of_audit x)) (sym same) (
          p.rest ++ (line ++ rest),
          segments_more number text p.rest (line ++ rest) p.has,
          (λ e. absurd (some (line ++ rest) e)),
          (
            p.known,
            event_wrong standard_part p.rest w (alone o) read line rest is less event
                (record { value = t.value; rest = t.rest; has = t.has; form = t.form; step = t.step; number = refl; limits = refl; taken = refl }),
          ),
        )
    event_refused rest e (inr (none, end)) (inr (same, (event, t))) = absurd (no_line t.has.0 t.rest (sym none ∙ t.has.1.0))

    pub event_read : (new : PartAuditor) (event : Event) → IsLineBefore line [] → (t : IsJudged standard_part line event o new true) →
        IsPartRead number (text ++ line) new A (es ++ event ∷ [])
    event_read new event is t =
        let after = es ++ event ∷ [] in
        let step = t.step A (fired_moves es) p.stands in
        let more = begun_more o.limits.version o.limits.events (history_of o.limits A es) p.rest [] (line ++ []) p.going.begun in
        let pushed = begun_push o.limits.version o.limits.events o.limits.agents o.limits.capacity A es event
        (p.rest ++ (line ++ [])) (line ++ []) [] t.value more (line_before line [] t.value t.rest is t.has) t.form in
        let begun = subst (λ (x : List ℕ). IsBegun o.limits.version o.limits.events (history_of o.limits A after) (p.rest ++ x) [])
        (append-nil line) pushed in
        let going : IsGoing standard_part A o.limits.version o.limits.events (history_of o.limits A after) (p.rest ++ line) [] =
        record { begun = begun; opens = refl; legal = legal_push (machine standard_part A o.limits.capacity) es event p.going.legal step.0 } in
        let count : new.taken ≡ o.taken + 1 = t.taken in
        let long : length after ≡ length es + 1 = length_push es event in
        let was = p.taken in
        let within : new.taken ≤ o.limits.events = omega (arith, count, less) in
        record {
          rest = p.rest ++ line;
          has = segments_more number text p.rest line p.has;
          going = subst (λ (l : Limits). IsGoing standard_part A l.version l.events (history_of l A after) (p.rest ++ line) [])
              (sym t.limits) going;
          taken = count ∙ ap (λ n. n + 1) was ∙ sym long;
          within = subst (λ (l : Limits). new.taken ≤ l.events) (sym t.limits) within;
          stands = subst (FollowsFrom standard_part A new.state) (sym (moves_push es event)) step.1;
          known = t.number ∙ p.known;
        }
