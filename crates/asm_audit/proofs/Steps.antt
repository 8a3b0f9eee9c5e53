-- What an audit has read after one more line.
use Rattle.std.proofs.Common.{◌≡◌, ◌≢◌, ◌+◌, ◌≤◌, ◌<◌, ℕ, Bool, true, false, List, [], ◌∷◌, ◌++◌, length, Option, Some, None, refl, sym, ap, subst, ◌∙◌, inl, inr, append-nil, arith, true≢false}
use Rattle.std.proofs.lemmas.List.{length_push}
use Rattle.serde_json.specs.Data.{Data}
use Rattle.asm_update.specs.Fire.{Part, state_of}
use Rattle.asm_update.specs.State as state
use Rattle.asm_update.specs.State.{State, IsProper, val}
use Rattle.asm_state.specs.FollowsFrom.{FollowsFrom}
use Rattle.asm_storage.specs.declared.history.Event.{Event}
use Rattle.asm_storage.specs.declared.history.History.{History}
use Rattle.asm_storage.specs.History.{fired_moves}
use Rattle.asm_journal.specs.declared.error.JournalError.{JournalError}
use Rattle.asm_journal.specs.declared.error.JournalError.TheVariants as journal_error
use Rattle.asm_journal.specs.declared.parsing.Header.{Header}
use Rattle.asm_journal.specs.declared.parsing.Limits.{Limits}
use Rattle.asm_journal.specs.Check.{machine}
use Rattle.asm_journal.specs.Fault.{BreaksHeader, BreaksEvent}
use Rattle.asm_journal.specs.Reading.{HasLine, IsHeader}
use Rattle.asm_journal.specs.Value.{IsStateForm}
use Rattle.asm_audit.specs.declared.part_auditor.PartAuditor.{PartAuditor}
use Rattle.asm_audit.specs.declared.progress.Counts.{Counts}
use Rattle.asm_audit.specs.declared.error.AuditError.TheVariants.{Apart}
use Rattle.asm_audit.specs.Text.{IsLineBefore, IsBegun, HasJournals}
use Rattle.asm_audit.specs.Chain.{last_left, AreLegalFrom, HasLegal, IsGoing}
use Rattle.asm_audit.specs.Fault.{counted, part_fault, BreaksNext, IsBehind, IsFaulty, IsFirstIllegal}
use Rattle.asm_audit.specs.PartAuditor.{history_of, IsReading, IsJudged}
use Rattle.asm_audit.specs.Audited.{calls_of, moves_of, AreCounts, IsAudited, IsWhole}
use Rattle.asm_audit.specs.Step.{whole_with, all_with, is_between, HasValues, IsOnTest}
use Rattle.asm_audit.proofs.SameState.{IsHeld, proper_held, written_held, left_held, same_values}
use Rattle.asm_audit.proofs.Extended.{begun_more, journals_more, journals_push, begun_push, some_before, line_before, header_fault}
use Rattle.asm_audit.proofs.Chains.{legal_none, legal_push, moves_push, chain_push, last_push, calls_push, moves_of_push, some_push}

-- nothing was read
pub audited_nothing : (part : Part) → IsAudited part []
    (record { before = record { calls = 0; moves = 0; parts = 0 }; current = None })
audited_nothing part = record {
  first = state.empty;
  before = [];
  rest = [];
  has = record { journals = refl; legal = tt };
  counts = (refl, refl, refl);
  next = (refl, refl);
}

faulty : (part : Part) (text : List ℕ) (j : ℕ) (fault : JournalError) →
    IsBehind part text j (λ A before rest. BreaksNext part A before rest fault) →
    IsFaulty part text (part_fault j fault)
faulty part text j (journal_error.NotJson k) h = (λ e. cc, h)
faulty part text j (journal_error.Shape k) h = (λ e. cc, h)
faulty part text j journal_error.Version h = (λ e. cc, h)
faulty part text j journal_error.Cut h = (λ e. cc, h)
faulty part text j journal_error.Memory h = tt

pub legal_more : (part : Part) (A : State) (hs : List History) (text rest more : List ℕ) → HasLegal part A hs text rest →
    HasLegal part A hs (text ++ more) (rest ++ more)
legal_more part A hs text rest more h =
    record { journals = journals_more hs text rest more h.journals; legal = h.legal }

-- what is being read, if its limits are these
reading_of : (part : Part) (A : State) (number : ℕ) (text : List ℕ) (o : PartAuditor) (limits : Limits) → limits ≡ o.limits →
    (events : List Event) →
    IsGoing part A limits.version limits.events (history_of limits A events) text [] → o.number ≡ number →
    o.taken ≡ length events → o.taken ≤ limits.events → FollowsFrom part A o.state (fired_moves events) →
    IsReading part A number text o
reading_of part A number text o limits same events going numbered taken within stands = record {
  events = events;
  going = subst (λ (l : Limits). IsGoing part A l.version l.events (history_of l A events) text []) same going;
  numbered = numbered;
  taken = taken;
  within = subst (λ (l : Limits). o.taken ≤ l.events) same within;
  stands = stands;
}

none_taken : (a c : ℕ) → a ≡ 0 → a ≤ c
none_taken a c e = omega arith

next_le : (a b c : ℕ) → a < c → b ≡ a + 1 → b ≤ c
next_le a b c h e = omega arith

one_more : (n count m k : ℕ) → m ≡ n + 1 → k ≡ n → k < count → m ≤ count
one_more n count m k e f h = omega arith

-- ---- an event

module _ (part : Part) (text : List ℕ) (w : Counts) (old : PartAuditor)
    (audited : IsAudited part text (record { before = w; current = Some old })) where
  abbrev A : State
  A = last_left part audited.first audited.before

  abbrev es : List Event
  es = audited.next.events

  going_more : (more : List ℕ) →
      IsGoing part A old.limits.version old.limits.events (history_of old.limits A es) (audited.rest ++ more) more
  going_more more = record {
    begun = begun_more old.limits.version old.limits.events (history_of old.limits A es) audited.rest [] more audited.next.going.begun;
    opens = refl;
    legal = audited.next.going.legal;
  }

  -- the next event is at fault, or no event comes
  pub event_broken : (more : List ℕ) (fault : JournalError) → old.taken < old.limits.events →
      BreaksEvent old.limits.version old.limits.agents (old.taken + 2) more fault →
      IsFaulty part (text ++ more) (part_fault old.number fault)
  event_broken more fault less breaks = faulty part (text ++ more) old.number fault (record {
    first = audited.first;
    before = audited.before;
    rest = audited.rest ++ more;
    has = legal_more part audited.first audited.before text audited.rest more audited.has;
    numbered = audited.next.numbered;
    next = inr (
      old.limits.version,
      old.limits.events,
      history_of old.limits A es,
      more,
      going_more more,
      subst (λ n. n < old.limits.events) audited.next.taken less,
      subst (λ n. BreaksEvent old.limits.version old.limits.agents (n + 2) more fault) audited.next.taken breaks,
    );
  })

  module _ (line rest : List ℕ) (is : IsLineBefore line rest) (less : old.taken < old.limits.events) (event : Event) where
    begun_with : (new : PartAuditor) (b : Bool) (t : IsJudged part line event old new b) →
        IsBegun old.limits.version old.limits.events (history_of old.limits A (es ++ event ∷ []))
        (audited.rest ++ (line ++ rest)) rest
    begun_with new b t =
        begun_push old.limits.version old.limits.events old.limits.agents old.limits.capacity A es event
        (audited.rest ++ (line ++ rest)) (line ++ rest) rest t.value (going_more (line ++ rest)).begun
        (line_before line rest t.value t.rest is t.has) t.form

    -- the event has another answer
    pub event_wrong : IsJudged part line event old old false → IsFirstIllegal part (text ++ (line ++ rest)) old.number old.taken
    event_wrong t = record {
      first = audited.first;
      before = audited.before;
      rest = audited.rest ++ (line ++ rest);
      has = legal_more part audited.first audited.before text audited.rest (line ++ rest) audited.has;
      numbered = audited.next.numbered;
      next = (
        old.limits.version,
        old.limits.events,
        history_of old.limits A (es ++ event ∷ []),
        rest,
        begun_with old false t,
        one_more (length es) old.limits.events _ old.taken (length_push es event) audited.next.taken less,
        refl,
        record {
          before = es;
          event = event;
          after = [];
          stands = refl;
          counted = sym audited.next.taken;
          legal = audited.next.going.legal;
          wrong = t.step.1 A (fired_moves es) audited.next.stands;
        },
      );
    }

  -- the event is right
  pub event_right : (line : List ℕ) (event : Event) (new : PartAuditor) → IsLineBefore line [] → old.taken < old.limits.events →
      IsJudged part line event old new true → IsAudited part (text ++ line) (record { before = w; current = Some new })
  event_right line event new is less t =
      let step = t.step A (fired_moves es) audited.next.stands in
      let begun = subst (λ (x : List ℕ). IsBegun old.limits.version old.limits.events (history_of old.limits A (es ++ event ∷ [])) (audited.rest ++ x) [])
      (append-nil line) (begun_with line [] is less event new true t) in
      let going : IsGoing part A old.limits.version old.limits.events (history_of old.limits A (es ++ event ∷ [])) (audited.rest ++ line) [] = record { begun = begun; opens = refl; legal = legal_push (machine part A old.limits.capacity) es event audited.next.going.legal step.0 } in
      record {
        first = audited.first;
        before = audited.before;
        rest = audited.rest ++ line;
        has = legal_more part audited.first audited.before text audited.rest line audited.has;
        counts = audited.counts;
        next = reading_of part A (counted (length audited.before)) (audited.rest ++ line) new old.limits (sym t.limits) (es ++ event ∷ []) going
            (t.number ∙ audited.next.numbered) (t.taken ∙ ap (λ n. n + 1) audited.next.taken ∙ sym (length_push es event))
            (next_le old.taken new.taken old.limits.events less t.taken)
            (subst (FollowsFrom part A new.state) (sym (moves_push es event)) step.1);
      }

-- ---- a header

-- the state that is left holds no undef, since that of a header holds none
header_held : (v agents capacity count : ℕ) (init : State) (d : Data) → IsHeader v agents capacity count init d → IsHeld init
header_held v agents capacity count init d h = form_held init h.3 h.7 where
  form_held : (A : State) (pairs : Data) → IsStateForm A pairs → IsHeld A
  form_held A pairs form = subst IsHeld (sym form.2.1) (written_held form.0)

-- between two journals: the text is complete legal journals, and what was read last leaves the state
pub record IsLast (part : Part) (A : State) (o : PartAuditor) : Type 0 where
  pub opening : State
  pub events : List Event
  pub held : IsHeld opening
  pub stands : FollowsFrom part opening o.state (fired_moves events)
  pub left : A ≡ state_of part opening (fired_moves events)

-- what a program holds with these values is the state that is left
pub left_is : (part : Part) (A : State) (o : PartAuditor) → IsLast part A o → (left : State) → HasValues o.state left → left ≡ A
left_is part A o last left has =
    same_values left (state_of part last.opening (fired_moves last.events)) (proper_held left has.1)
    (left_held part last.opening (fired_moves last.events) last.held) (λ l. has.0 l ∙ last.stands.values l)
    ∙ sym last.left

abbrev pub IsLeft : Part → State → List History → Option PartAuditor → Type 0
IsLeft part first all None = all ≡ []
IsLeft part first all (Some o) = (all ≢ []) × IsLast part (last_left part first all) o

pub record IsBetween (part : Part) (text : List ℕ) (w : Counts) (o : Option PartAuditor) : Type 0 where
  pub first : State
  pub all : List History
  pub has : HasLegal part first all text []
  pub counts : AreCounts all w
  pub left : IsLeft part first all o

counted_more : (w n m k : ℕ) → w ≡ counted n → k ≡ n + m → counted (w + m) ≡ counted k
counted_more w n m k e f = omega (arith, e, f)

same_count : (a b : ℕ) → a ≤ b → b ≤ a → a ≡ b
same_count a b h k = omega arith

-- the part that is being read, after those before it
module _ (part : Part) (text : List ℕ) (w : Counts) (o : PartAuditor)
    (audited : IsAudited part text (record { before = w; current = Some o })) where
  abbrev pub read_of : History
  read_of = history_of o.limits (last_left part audited.first audited.before) audited.next.events

  abbrev pub with_read : List History
  with_read = audited.before ++ read_of ∷ []

  pub read_calls : counted (w.calls + o.taken) ≡ counted (calls_of with_read)
  read_calls =
      counted_more w.calls (calls_of audited.before) o.taken _ audited.counts.0
      (calls_push audited.before read_of ∙ ap (λ n. calls_of audited.before + n) (sym audited.next.taken))

  pub read_moves : counted (w.moves + o.state.number) ≡ counted (moves_of with_read)
  read_moves =
      counted_more w.moves (moves_of audited.before) o.state.number _ audited.counts.1
      (moves_of_push audited.before read_of ∙ ap (λ n. moves_of audited.before + n) (sym audited.next.stands.number))

  pub read_legal : AreLegalFrom part audited.first with_read
  read_legal = chain_push part audited.first audited.before read_of audited.has.legal refl audited.next.going.legal

  pub read_last : IsLast part (last_left part audited.first with_read) o
  read_last = record {
    opening = last_left part audited.first audited.before;
    events = audited.next.events;
    held = header_held _ _ _ _ _ _ audited.next.going.begun.header;
    stands = audited.next.stands;
    left = last_push part audited.first audited.before read_of;
  }

pub between : (part : Part) (text : List ℕ) (w : Counts) (o : Option PartAuditor) → is_between o →
    IsAudited part text (record { before = w; current = o }) → IsBetween part text (all_with w o) o
between part text w None met audited = record {
  first = audited.first;
  all = [];
  has = record {
    journals = subst (λ (hs : List History). HasJournals hs text []) audited.next.0
        (subst (HasJournals audited.before text) audited.next.1 audited.has.journals);
    legal = tt;
  };
  counts = subst (λ (hs : List History). AreCounts hs w) audited.next.0 audited.counts;
  left = refl;
}
between part text w (Some o) met audited =
    let r : IsReading part (last_left part audited.first audited.before) (counted (length audited.before)) audited.rest o = audited.next in
    let h = read_of part text w o audited in
    let all_read : o.limits.events ≡ length r.events = same_count _ _ met r.within ∙ r.taken in
    let whole = subst (λ (n : ℕ). IsBegun o.limits.version n h audited.rest []) all_read r.going.begun in
    record {
      first = audited.first;
      all = with_read part text w o audited;
      has = record {
        journals = journals_push audited.before h text audited.rest [] audited.has.journals (o.limits.version, whole);
        legal = read_legal part text w o audited;
      };
      counts = (
        read_calls part text w o audited,
        read_moves part text w o audited,
        counted_more w.parts (length audited.before) 1 _ audited.counts.2 (length_push audited.before h),
      );
      left = (some_push audited.before h, read_last part text w o audited);
    }

-- all of its events were read
pub read_whole : (part : Part) (text : List ℕ) (w : Counts) (o : PartAuditor) → o.limits.events ≤ o.taken →
    (audited : IsAudited part text (record { before = w; current = Some o })) →
    HasLegal part audited.first (with_read part text w o audited) text []
unfolding between
read_whole part text w o met audited = (between part text w (Some o) met audited).has

-- all were read
pub ended_whole : (part : Part) (text : List ℕ) (w : Counts) (o : PartAuditor) → o.limits.events ≤ o.taken →
    IsAudited part text (record { before = w; current = Some o }) → IsWhole part text (whole_with w o)
ended_whole part text w o met audited =
    let b = between part text w (Some o) met audited in
    record { first = b.first; all = b.all; has = b.has; some = b.left.0; counts = b.counts }

-- one has begun, and isn't complete
pub ended_cut : (part : Part) (text : List ℕ) (w : Counts) (o : PartAuditor) → o.taken < o.limits.events →
    IsAudited part text (record { before = w; current = Some o }) →
    IsFaulty part text (part_fault w.parts journal_error.Cut)
ended_cut part text w o less audited =
    subst (λ (n : ℕ). IsFaulty part text (part_fault n journal_error.Cut)) (audited.next.numbered ∙ sym audited.counts.2)
    (subst (λ (t : List ℕ). IsFaulty part t (part_fault o.number journal_error.Cut)) (append-nil text)
    (event_broken part text w o audited [] journal_error.Cut less (inl refl)))

module _ (part : Part) (text : List ℕ) (w : Counts) (o : Option PartAuditor) (met : is_between o)
    (audited : IsAudited part text (record { before = w; current = o })) (line : List ℕ) where
  abbrev b : IsBetween part text (all_with w o) o
  b = between part text w o met audited

  -- a header is at fault
  pub header_broken : (rest : List ℕ) (fault : JournalError) → IsLineBefore line rest → BreaksHeader line fault →
      IsFaulty part (text ++ (line ++ rest)) (part_fault (all_with w o).parts fault)
  header_broken rest fault is breaks =
      faulty part (text ++ (line ++ rest)) (all_with w o).parts fault (record {
        first = b.first;
        before = b.all;
        rest = line ++ rest;
        has = legal_more part b.first b.all text [] (line ++ rest) b.has;
        numbered = b.counts.2;
        next = inl (header_fault line rest fault is breaks, λ e. absurd (some_before line rest is e));
      })

  abbrev OpensOn : State → Type 0
  OpensOn init = (first : State) × HasLegal part first b.all text [] × (init ≡ last_left part first b.all)

  module _ (init : State) (held : IsHeld init) (test : Bool) where
    -- the header continues what was read
    opens_on : (x : Option PartAuditor) → IsLeft part b.first b.all x → IsOnTest x init test → test ≡ true → OpensOn init
    opens_on None none is true_is = (
      init,
      record {
        journals = b.has.journals;
        legal = subst (λ (hs : List History). AreLegalFrom part init hs) (sym none) tt;
      },
      subst (λ (hs : List History). init ≡ last_left part init hs) (sym none) refl,
    )
    opens_on (Some x) last is true_is =
        (b.first, b.has, sym (is.2.0 true_is) ∙ left_is part (last_left part b.first b.all) x last.1 is.0 is.1)

    -- it opens with another state
    opens_mismatched : (x : Option PartAuditor) → IsLeft part b.first b.all x → IsOnTest x init test → test ≡ false →
        (b.all ≢ []) × (init ≢ last_left part b.first b.all)
    opens_mismatched None none is false_is = absurd (true≢false (sym is ∙ false_is))
    opens_mismatched (Some x) last is false_is = (
      last.0,
      λ same.
          let left = left_is part (last_left part b.first b.all) x last.1 is.0 is.1 in
          true≢false (sym (is.2.1 (left ∙ sym same)) ∙ false_is),
    )

  module _ (header : Header) (d : Data) (after : List ℕ) (line_has : HasLine line d after)
      (form : IsHeader header.limits.version header.limits.agents header.limits.capacity header.limits.events header.init d)
      (test : Bool) (on : IsOnTest o header.init test) where
    header_begun : (A : State) (rest : List ℕ) → IsLineBefore line rest → header.init ≡ A →
        IsBegun header.limits.version header.limits.events (history_of header.limits A []) (line ++ rest) rest
    header_begun A rest is opens = record {
      value = d;
      behind = rest;
      line = line_before line rest d after is line_has;
      header = subst (λ (B : State). IsHeader header.limits.version header.limits.agents header.limits.capacity header.limits.events B d) opens form;
      events = refl;
    }

    held : IsHeld header.init
    held = header_held _ _ _ _ header.init d form

    -- a journal begins
    pub header_right : (new : PartAuditor) → IsLineBefore line [] → test ≡ true → new.number ≡ (all_with w o).parts →
        new.limits ≡ header.limits → new.taken ≡ 0 → FollowsFrom part header.init new.state [] →
        IsAudited part (text ++ line) (record { before = all_with w o; current = Some new })
    header_right new is true_is numbered limits taken stands =
        let opens = opens_on header.init held test o b.left on true_is in
        let A = last_left part opens.0 b.all in
        let begun = subst (λ (x : List ℕ). IsBegun header.limits.version header.limits.events (history_of header.limits A []) x [])
        (append-nil line) (header_begun A [] is opens.2) in
        record {
          first = opens.0;
          before = b.all;
          rest = line;
          has = legal_more part opens.0 b.all text [] line opens.1;
          counts = b.counts;
          next = reading_of part A (counted (length b.all)) line new header.limits (sym limits) []
              (record { begun = begun; opens = refl; legal = legal_none (machine part A header.limits.capacity) })
              (numbered ∙ b.counts.2) taken (none_taken new.taken header.limits.events taken)
              (subst (λ (B : State). FollowsFrom part B new.state []) opens.2 stands);
        }

    -- a journal that opens with another state
    pub header_mismatched : (rest : List ℕ) → IsLineBefore line rest → test ≡ false →
        IsFaulty part (text ++ (line ++ rest)) (Apart (all_with w o).parts)
    header_mismatched rest is false_is =
        let apart = opens_mismatched header.init held test o b.left on false_is in
        record {
          first = b.first;
          before = b.all;
          rest = line ++ rest;
          has = legal_more part b.first b.all text [] (line ++ rest) b.has;
          numbered = b.counts.2;
          next = (
            apart.0,
            (
              header.limits.version,
              header.limits.events,
              history_of header.limits header.init [],
              rest,
              header_begun header.init rest is refl,
              refl,
              apart.1,
            ),
          );
        }
