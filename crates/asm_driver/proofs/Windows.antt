-- A window of a run that is traced.
use Rattle.std.proofs.Common.{◌≡◌, ◌+◌, ◌≤◌, ◌<◌, ◌⊎◌, ℕ, Bool, false, List, [], ◌∷◌, ◌++◌, length, refl, sym, ap, subst, ◌∙◌, inl, inr, append-nil, append_assoc, length-append, arith}
use Rattle.std.specs.Io.KnownBytes.{Consumes, IsAtEnd}
use Rattle.asm_aggregate.specs.Standard.{standard_part}
use Rattle.asm_update.specs.State.{State}
use Rattle.asm_state.specs.FollowsFrom.{FollowsFrom}
use Rattle.asm_state.specs.View.{StateView}
use Rattle.asm_storage.specs.History.{fired_moves}
use Rattle.asm_storage.specs.Limits.{events_limit}
use Rattle.asm_storage.specs.declared.history.Event.{Event}
use Rattle.asm_storage.proofs.Legal.{fired_moves-append}
use Rattle.asm_journal.specs.Check.{machine}
use Rattle.asm_journal.specs.Text.{line}
use Rattle.asm_audit.specs.declared.part_auditor.PartAuditor.{PartAuditor}
use Rattle.asm_audit.specs.PartAuditor.{history_of}
use Rattle.asm_audit.proofs.Extended.{begun_more, line_more}
use Rattle.asm_trace.specs.Note.{Note, IsNoteOf, AreNotesOf}
use Rattle.asm_trace.specs.Text.{notes_text, note_json_of, IsNoteAppended}
use Rattle.asm_trace.proofs.Noted.{notes_more, text_more, few_moves}
use Rattle.asm_driver.specs.Ports.{Known}
use Rattle.asm_driver.specs.Parts.{HasSegments, IsPartRead, IsAt, IsOneLine, IsBadAlone, IsBadBehind, IsReportedAfter}
use Rattle.std.specs.FinMap as finite
use Rattle.serde_json.specs.Data.{Data}
use Rattle.serde_json.specs.Written.{has_float}
use Rattle.asm_update.specs.Fire.{state_of}
use Rattle.asm_journal.specs.Value.{IsStateForm, pair_json_of}
use Rattle.asm_journal.proofs.Floats.{list_no_float, pair_no_float}
use Rattle.asm_audit.specs.Step.{HasValues}
use Rattle.asm_audit.proofs.SameState.{IsHeld, proper_held, written_held, left_held, same_values}
use Rattle.asm_driver.specs.Window.{end_in, LiesIn, window_header, window_header_with, IsShown, HasFewCalls, IsBadWindow, IsInside, IsWindow, IsNoWindow}
use Rattle.asm_driver.specs.declared.program.refusal.Refusal.{Refusal}
use Rattle.asm_driver.specs.declared.program.refusal.Refusal.TheVariants as refusal
use Rattle.asm_driver.specs.declared.program.words.Window.{Window}
use Rattle.asm_driver.proofs.LinesTaken.{reported_anywhere}
use Rattle.asm_driver.proofs.PartLines.{segments_more}

-- ---- refusals

-- why the window's segment is refused is also why there is no such window
pub bad_window : (w : Window) (text : List ℕ) (r : Refusal) → IsBadBehind IsBadAlone w.part text r → IsBadWindow w text r
bad_window w text (refusal.FewCalls part calls) is = absurd is.3
bad_window w text (refusal.FewParts parts) is = absurd is.3
bad_window w text r is = inl is

pub refused_window : (w : Window) (had left : Known) (failed : Bool) (text : List ℕ) (r : Refusal) → IsInside w text →
    IsReportedAfter had left failed text (IsBadBehind IsBadAlone w.part) r → IsNoWindow w had left failed r
refused_window w had left failed text r inside reported = (
  text,
  inside,
  record {
    line = reported.line;
    behind = reported.behind;
    consumed = reported.consumed;
    one = reported.one;
    reported = by_end reported.reported;
    noted = reported.noted;
  },
) where
  by_end : (IsAtEnd left × (reported.behind ≡ []) × IsBadBehind IsBadAlone w.part (text ++ reported.line) r)
      ⊎ ((more : List ℕ) → IsBadBehind IsBadAlone w.part (text ++ (reported.line ++ more)) r) →
      (IsAtEnd left × (reported.behind ≡ []) × IsBadWindow w (text ++ reported.line) r)
      ⊎ ((more : List ℕ) → IsBadWindow w (text ++ (reported.line ++ more)) r)
  by_end (inl (end, nothing, is)) = inl (end, nothing, bad_window w (text ++ reported.line) r is)
  by_end (inr is) = inr (λ more. bad_window w (text ++ (reported.line ++ more)) r (is more))

pub inside_part : (w : Window) (text : List ℕ) (o : PartAuditor) (A : State) (es : List Event) → IsPartRead w.part text o A es →
    length es < end_in w o.limits.events → IsInside w text
inside_part w text o A es read less = inr (inr (o, A, es, read, less))

-- nothing is claimed of refused memory
pub memory_window : (w : Window) (had left : Known) (failed : Bool) (bytes : List ℕ) → Consumes had left bytes →
    failed ≡ false → IsNoWindow w had left failed refusal.Memory
memory_window w had left failed bytes consumed noted = (
  [],
  inl (0, refl, omega arith),
  reported_anywhere had left failed [] (IsBadWindow w) refusal.Memory bytes consumed noted (λ all. inl tt),
)

-- the window goes beyond its segment
pub few_calls : (w : Window) (had left : Known) (failed : Bool) (text l behind : List ℕ) (o : PartAuditor) (A : State) →
    HasSegments w.part text [] → IsOneLine l → IsPartRead w.part (text ++ l) o A [] → IsAt had left (text ++ l) behind →
    failed ≡ false → ¬ LiesIn w o.limits.events → IsNoWindow w had left failed (refusal.FewCalls w.part o.limits.events)
few_calls w had left failed text l behind o A has one read at noted beyond = (
  text,
  inl (w.part, has, omega arith),
  record {
    line = l;
    behind = behind;
    consumed = subst (Consumes had left) (append_assoc text l behind) at;
    one = one;
    reported = inr (λ more. subst (λ (t : List ℕ). IsBadWindow w t (refusal.FewCalls w.part o.limits.events))
        (append_assoc text l more) (refl, calls more));
    noted = noted;
  },
) where
  calls : (more : List ℕ) → HasFewCalls w ((text ++ l) ++ more) o.limits.events
  calls more =
      let b = read.going.begun in
      record {
        rest = read.rest ++ more;
        has = segments_more w.part (text ++ l) read.rest more read.has;
        h = record { limits = o.limits; init = A };
        behind = b.behind ++ more;
        line = (b.value, line_more read.rest b.value b.behind more b.line, b.header);
        events = refl;
        beyond = beyond;
      }

-- ---- the window

pub window_shown : (w : Window) (had left : Known) (failed : Bool) (text behind : List ℕ) (o : PartAuditor) (A : State)
    (es shown : List Event) (notes : List Note) (reported : List ℕ) → IsAt had left text behind → failed ≡ false →
    IsPartRead w.part text o A (es ++ shown) → LiesIn w o.limits.events → length es ≡ w.from →
    length (es ++ shown) ≡ end_in w o.limits.events →
    AreNotesOf (machine standard_part A o.limits.capacity) (fired_moves es) (length es) shown notes →
    reported ≡ line (window_header w.part (history_of o.limits A (es ++ shown)) es (length shown)) ++ notes_text notes →
    IsWindow w had left failed reported
window_shown w had left failed text behind o A es shown notes reported at noted read lies from end are is = record {
  bytes = text ++ behind;
  consumed = at;
  shown = λ more. subst (λ (t : List ℕ). IsShown w t reported) (sym (append_assoc text behind more)) (here (behind ++ more));
  noted = noted;
} where
  here : (rest : List ℕ) → IsShown w (text ++ rest) reported
  here rest = record {
    rest = read.rest ++ rest;
    has = segments_more w.part text read.rest rest read.has;
    v = o.limits.version;
    count = o.limits.events;
    h = history_of o.limits A (es ++ shown);
    behind = rest;
    begun = begun_more o.limits.version o.limits.events (history_of o.limits A (es ++ shown)) read.rest [] rest read.going.begun;
    legal = read.going.legal;
    lies = lies;
    before = es;
    shown = shown;
    events = refl;
    from = from;
    end = end;
    is = (notes, are, is);
  }

-- ---- notes

-- these events were noted behind those, and the state is the one after the moves of all
pub record AreNotedTo (capacity : ℕ) (A : State) (es shown : List Event) (s : StateView) (old new : List ℕ) : Type 0 where
  pub notes : List Note
  pub are : AreNotesOf (machine standard_part A capacity) (fired_moves es) (length es) shown notes
  pub text : new ≡ old ++ notes_text notes
  pub stands : FollowsFrom standard_part A s (fired_moves (es ++ shown))

pub noted_none : (capacity : ℕ) (A : State) (es : List Event) (s : StateView) (old : List ℕ) →
    FollowsFrom standard_part A s (fired_moves es) → AreNotedTo capacity A es [] s old old
noted_none capacity A es s old stands = record {
  notes = [];
  are = tt;
  text = sym (append-nil old);
  stands = subst (λ (xs : List Event). FollowsFrom standard_part A s (fired_moves xs)) (sym (append-nil es)) stands;
}

pub noted_more : (capacity : ℕ) (A : State) (es shown : List Event) (e : Event) (n : ℕ) (s t : StateView)
    (old mid new : List ℕ) → AreNotedTo capacity A es shown s old mid → n ≡ length (es ++ shown) →
    IsNoteAppended standard_part capacity n e s t mid new → AreNotedTo capacity A es (shown ++ e ∷ []) t old new
noted_more capacity A es shown e n s t old mid new so_far number step =
    let m = machine standard_part A capacity in
    let q = fired_moves (es ++ shown) in
    let done = step A q so_far.stands in
    let x : Note = done.0.0 in
    let moves : q ≡ fired_moves es ++ fired_moves shown = fired_moves-append es shown in
    let count : n ≡ length es + length shown = number ∙ length-append es shown in
    let one = subst (λ k. IsNoteOf m (fired_moves es ++ fired_moves shown) k e x) count
    (subst (λ p. IsNoteOf m p n e x) moves done.0.1) in
    record {
      notes = so_far.notes ++ x ∷ [];
      are = notes_more m (fired_moves es) (length es) shown e so_far.notes x so_far.are one;
      text = done.0.2 ∙ ap (λ b. b ++ line (note_json_of x)) so_far.text
          ∙ append_assoc old (notes_text so_far.notes) (line (note_json_of x))
          ∙ ap (λ b. old ++ b) (sym (text_more so_far.notes x));
      stands = subst (λ (xs : List Event). FollowsFrom standard_part A t (fired_moves xs)) (append_assoc es shown (e ∷ []))
          (subst (FollowsFrom standard_part A t) (sym (fired_moves-append (es ++ shown) (e ∷ []))) done.1);
    }

-- the state has followed fewer moves than can be counted
pub few_followed : (number n count : ℕ) (text : List ℕ) (o : PartAuditor) (A : State) (es : List Event) (s : StateView) →
    IsPartRead number text o A es → FollowsFrom standard_part A s (fired_moves es) → length es < count → count ≤ events_limit →
    s.number < events_limit
few_followed number n count text o A es s read stands less few =
    let moves = few_moves es in
    let followed = stands.number in
    omega (arith, moves, followed, less, few)

-- ---- the header

-- the opening state of a segment holds no undef
pub part_held : (number : ℕ) (text : List ℕ) (o : PartAuditor) (A : State) (es : List Event) → IsPartRead number text o A es →
    IsHeld A
part_held number text o A es read = form_held A read.going.begun.header.3 read.going.begun.header.7 where
  form_held : (B : State) (pairs : Data) → IsStateForm B pairs → IsHeld B
  form_held B pairs form = subst IsHeld (sym form.2.1) (written_held form.0)

pub header_is : (o : PartAuditor) (init A : State) (es all : List Event) (count : ℕ) (d : Data) → HasValues o.state init → IsHeld A →
    o.taken ≡ length es → FollowsFrom standard_part A o.state (fired_moves es) →
    d ≡ window_header_with o.limits.agents o.limits.capacity count o.taken init o.state.number o.number →
    d ≡ window_header o.number (history_of o.limits A all) es count
header_is o init A es all count d has held taken stands is =
    let left = same_values init (state_of standard_part A (fired_moves es)) (proper_held init has.1)
    (left_held standard_part A (fired_moves es) held) (λ l. has.0 l ∙ stands.values l) in
    is ∙ ap (λ n. window_header_with o.limits.agents o.limits.capacity count n init o.state.number o.number) taken
    ∙ ap (λ B. window_header_with o.limits.agents o.limits.capacity count (length es) B o.state.number o.number) left
    ∙ ap (λ n. window_header_with o.limits.agents o.limits.capacity count (length es)
    (state_of standard_part A (fired_moves es)) n o.number) stands.number

pub window_no_float : (agents capacity events from : ℕ) (init : State) (moves part : ℕ) →
    has_float (window_header_with agents capacity events from init moves part) ≡ false
window_no_float agents capacity events from init moves part =
    rw (list_no_float pair_json_of pair_no_float (finite.entries init)) refl
