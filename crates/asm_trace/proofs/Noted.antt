-- Notes of events, one at a time: a history has one list of them, a right answer has nothing beside it, and what moves leave of
-- values that a program can hold are such values again.
use Rattle.std.proofs.Common.{◌≡◌, Bool, true, false, refl, sym, subst, All, Result, Ok, Err, ◌<◌, ◌≤◌, ◌+◌, ℕ, suc, List, [], ◌∷◌, ◌++◌, length, get_or, take, Option, Some, None, ap, ◌∙◌, append-nil, append_assoc, arith, option_map, ◌≢◌, ap₂}
use Rattle.asm_element.specs.Place.{Place}
use Rattle.asm_element.specs.Value as value
use Rattle.asm_update.specs.Action.{IsProperInstruction}
use Rattle.asm_update.specs.Aggregator.{Meaning, AggregatorLaws}
use Rattle.asm_update.specs.Fire.{fire, state_or, Part, Old}
use Rattle.asm_update.specs.Move.{Move, actions_at, writes}
use Rattle.asm_update.specs.State.{State, val}
use Rattle.asm_update.specs.declared.clash.Clash.{Clash}
use Rattle.asm_update.proofs.FireLemmas.{val-fired, val-unwritten}
use Rattle.asm_aggregate.proofs.Sequence.{proper_actions}
use Rattle.asm_storage.proofs.ProperResults.{result_proper}
use Rattle.std.specs.List.{cons_option, slice_get}
use Rattle.std.proofs.lemmas.List.{take_more, length-take-le}
use Rattle.serde_json.specs.Data.{Data}
use Rattle.asm_state.specs.View.{StateView, value_at}
use Rattle.asm_state.specs.FollowsFrom.{FollowsFrom}
use Rattle.asm_state.proofs.Judged.{same_old}
use Rattle.asm_storage.specs.Machine.{Machine, machine_state, reply_to}
use Rattle.asm_storage.specs.History.{move_of, fired_moves}
use Rattle.asm_storage.specs.Limits.{events_limit}
use Rattle.asm_storage.specs.declared.call.Answer.{Answer}
use Rattle.asm_storage.specs.declared.call.Answer.TheVariants as answer
use Rattle.asm_storage.specs.declared.call.Reply.{Reply}
use Rattle.asm_storage.specs.declared.history.Event.{Event}
use Rattle.asm_storage.specs.declared.history.History.{History}
use Rattle.asm_storage.proofs.Legal.{fired_moves-append}
use Rattle.asm_journal.specs.Check.{machine, machine_of, moves_with}
use Rattle.asm_journal.specs.Event.{reply_json_of}
use Rattle.asm_journal.specs.Text.{line}
use Rattle.asm_trace.specs.Change.{changes_of}
use Rattle.asm_trace.specs.Note.{Note, IsNoteOf, AreNotesOf, IsJudged, IsCorrection}
use Rattle.asm_trace.specs.Text.{note_json_of, notes_text, event_with, header_of, changes_json_of, right_json_of, IsNoteAppended, OneTrace, LegalTrace, FirstWrongIsCorrected, HasNoCorrection}
use Rattle.std.proofs.lemmas.List.Elements.{All-nil, All-cons}

-- each location has a value that a program can hold
abbrev pub IsHeld : State → Type 0
IsHeld A = (l : Place) → value.IsProper (val A l)

module _ {a : Meaning} (laws : AggregatorLaws a) where
  fired_held : (A B : State) (M : Move) → IsHeld A → All IsProperInstruction M → fire a.part A M ≡ Ok B → IsHeld B
  fired_held A B M held proper is l = by_test (writes M l) refl where
    by_test : (b : Bool) → writes M l ≡ b → value.IsProper (val B l)
    by_test true there =
        result_proper laws (val A l) (val B l) (actions_at M l) (held l) (proper_actions M l proper)
        (val-fired a.part A B M l is there)
    by_test false none = subst value.IsProper (sym (val-unwritten a.part A B M l is none)) (held l)

  -- the state after a proper move holds such values too
  pub move_held : (A : State) (M : Move) → IsHeld A → All IsProperInstruction M → IsHeld (state_or A (fire a.part A M))
  move_held A M held proper = by_answer (fire a.part A M) refl where
    by_answer : (r : Result State Clash) → fire a.part A M ≡ r → IsHeld (state_or A r)
    by_answer (Ok B) e = fired_held A B M held proper e
    by_answer (Err c) e = held

-- ---- the moves of events, one at a time

pub moves_joined : (q : List Move) (o : Option Move) (ms : List Move) → (q ++ cons_option o []) ++ ms ≡ q ++ cons_option o ms
moves_joined q None ms = ap (λ l. l ++ ms) (append-nil q)
moves_joined q (Some M) ms = append_assoc q (M ∷ []) ms

-- there are at most as many moves as events
pub few_moves : (h : List Event) → length (fired_moves h) ≤ length h
few_moves [] = omega arith
few_moves (e ∷ h) = by_move (move_of e) (few_moves h) where
  by_move : (o : Option Move) → length (fired_moves h) ≤ length h → length (cons_option o (fired_moves h)) ≤ suc (length h)
  by_move None few = omega arith
  by_move (Some M) few = omega arith

-- ---- one note more

pub notes_more : (m : Machine) (q : List Move) (n : ℕ) (es : List Event) (e : Event) (xs : List Note) (x : Note) →
    AreNotesOf m q n es xs → IsNoteOf m (q ++ fired_moves es) (n + length es) e x →
    AreNotesOf m q n (es ++ e ∷ []) (xs ++ x ∷ [])
notes_more m q n [] e [] x so_far one =
    let number : n + 0 ≡ n = omega arith in
    let moved : IsNoteOf m q (n + 0) e x = subst (λ p. IsNoteOf m p (n + 0) e x) (append-nil q) one in
    (subst (λ k. IsNoteOf m q k e x) number moved, tt)
notes_more m q n (y ∷ es) e (z ∷ xs) x so_far one =
    let number : n + suc (length es) ≡ n + 1 + length es = omega arith in
    let moved : IsNoteOf m (moves_with q y ++ fired_moves es) (n + suc (length es)) e x =
    subst (λ p. IsNoteOf m p (n + suc (length es)) e x) (sym (moves_joined q (move_of y) (fired_moves es))) one in
    let last = subst (λ k. IsNoteOf m (moves_with q y ++ fired_moves es) k e x) number moved in
    (so_far.0, notes_more m (moves_with q y) (n + 1) es e xs x so_far.1 last)
notes_more m q n es e xs x so_far one = absurd so_far

pub text_more : (xs : List Note) (x : Note) → notes_text (xs ++ x ∷ []) ≡ notes_text xs ++ line (note_json_of x)
text_more [] x = append-nil (line (note_json_of x))
text_more (y ∷ xs) x =
    ap (λ t. line (note_json_of y) ++ t) (text_more xs x)
    ∙ sym (append_assoc (line (note_json_of y)) (notes_text xs) (line (note_json_of x)))

-- ---- one event, on a state that stands for the moves before it

pub noted_step : (part : Part) (capacity n : ℕ) (e : Event) (old new : StateView) (reported : Option Answer)
    (changes : Option Data) (d : Data) (before after : List ℕ) → IsJudged part capacity e old new reported →
    changes ≡ option_map changes_json_of (option_map (changes_of part (value_at old)) (move_of e)) →
    d ≡ event_with n e (option_map (right_json_of e.answer) reported) changes →
    after ≡ before ++ line d → IsNoteAppended part capacity n e old new before after
noted_step part capacity n e old new reported changes d before after judged changed is appended = λ init q stands.
    let done = judged init q stands in
    let m = machine part init capacity in
    let x : Note = record {
      number = n;
      event = e;
      right = reported;
      changes = option_map (changes_of part (val (machine_state m q))) (move_of e);
    } in
    let here = changed
    ∙ ap (λ (o : Old). option_map changes_json_of (option_map (changes_of part o) (move_of e))) (same_old part init q old stands) in
    let written : d ≡ note_json_of x = is ∙ ap (event_with n e (option_map (right_json_of e.answer) reported)) here in
    ((x, record { number = refl; event = refl; right = done.0; changes = refl }, appended ∙ ap (λ j. before ++ line j) written), done.1)

-- ---- the loop of the trace

-- the first events are noted in the text, and the state stands for their moves
abbrev pub IsNotedTo : Part → History → StateView → List ℕ → ℕ → Type 0
IsNotedTo part h s text i =
    ((notes : List Note) × AreNotesOf (machine_of part h) [] 0 (take i h.events) notes
    × (text ≡ line (header_of h) ++ notes_text notes))
    × FollowsFrom part h.init s (fired_moves (take i h.events))

pub noted_to_more : (part : Part) (h : History) (i : ℕ) (e : Event) (old new : StateView) (before after : List ℕ) →
    i < length h.events → e ≡ get_or h.events i e → IsNotedTo part h old before i →
    IsNoteAppended part h.capacity i e old new before after → IsNotedTo part h new after (i + 1)
noted_to_more part h i e old new before after within here ((notes, are, is), stands) step =
    let m = machine_of part h in
    let es = take i h.events in
    let done = step h.init (fired_moves es) stands in
    let x = done.0.0 in
    let more : take (i + 1) h.events ≡ es ++ e ∷ [] = take_more h.events i e within ∙ ap (λ y. es ++ y ∷ []) (sym here) in
    let long : length es ≡ i = length-take-le i h.events (omega (arith, within)) in
    let number : i ≡ 0 + length es = omega (arith, long) in
    let one : IsNoteOf m (fired_moves es) (0 + length es) e x =
    subst (λ k. IsNoteOf m (fired_moves es) k e x) number done.0.1 in
    let text : after ≡ line (header_of h) ++ notes_text (notes ++ x ∷ []) =
    done.0.2 ∙ ap (λ t. t ++ line (note_json_of x)) is
    ∙ append_assoc (line (header_of h)) (notes_text notes) (line (note_json_of x))
    ∙ ap (λ t. line (header_of h) ++ t) (sym (text_more notes x)) in (
      (
        notes ++ x ∷ [],
        subst (λ ys. AreNotesOf m [] 0 ys (notes ++ x ∷ [])) (sym more) (notes_more m [] 0 es e notes x are one),
        text,
      ),
      subst (FollowsFrom part h.init new) (sym (ap fired_moves more ∙ fired_moves-append es (e ∷ []))) done.1,
    )

-- the state has followed at most as many moves as there were events
pub few_followed : (part : Part) (h : History) (s : StateView) (text : List ℕ) (i : ℕ) → IsNotedTo part h s text i →
    i < length h.events → length h.events ≤ events_limit → s.number < events_limit
few_followed part h s text i so_far within few =
    let long : length (take i h.events) ≡ i = length-take-le i h.events (omega (arith, within)) in
    let moves = few_moves (take i h.events) in
    let number = so_far.1.number in
    omega (arith, long, moves, number, within, few)

-- ---- a history has one trace at most

reported_once : (a r : Answer) (x y : Option Answer) → IsCorrection a r x → IsCorrection a r y → x ≡ y
reported_once a r None None h k = refl
reported_once a r None (Some y) h k = absurd (k.1 h)
reported_once a r (Some x) None h k = absurd (h.1 k)
reported_once a r (Some x) (Some y) h k = ap Some (h.0 ∙ sym k.0)

note_once : (m : Machine) (q : List Move) (n : ℕ) (e : Event) (x y : Note) → IsNoteOf m q n e x → IsNoteOf m q n e y → x ≡ y
note_once m q n e x y h k =
    let numbers = h.number ∙ sym k.number in
    let events = h.event ∙ sym k.event in
    let rights = reported_once e.answer (reply_to m q e.call) x.right y.right h.right k.right in
    let changes = h.changes ∙ sym k.changes in
    λ i. record { number = numbers i; event = events i; right = rights i; changes = changes i }

notes_once : (m : Machine) (q : List Move) (n : ℕ) (es : List Event) (xs ys : List Note) → AreNotesOf m q n es xs →
    AreNotesOf m q n es ys → xs ≡ ys
notes_once m q n [] [] [] h k = refl
notes_once m q n (e ∷ es) (x ∷ xs) (y ∷ ys) h k =
    ap₂ (λ a b. a ∷ b) (note_once m q n e x y h.0 k.0) (notes_once m (moves_with q e) (n + 1) es xs ys h.1 k.1)
notes_once m q n [] [] ys h k = absurd k
notes_once m q n (e ∷ es) (x ∷ xs) ys h k = absurd k
notes_once m q n es xs ys h k = absurd h

pub one_trace : OneTrace
one_trace part h s t (xs, are, is) (ys, also, too) =
    is ∙ ap (λ zs. line (header_of h) ++ notes_text zs) (notes_once (machine_of part h) [] 0 h.events xs ys are also)
    ∙ sym too

-- ---- a right answer has nothing beside it, and a wrong one has

-- the events are legal after the moves q
abbrev AreLegal : Machine → List Move → List Event → Type 0
AreLegal m q es = (before after : List Event) (e : Event) →
    before ++ e ∷ after ≡ es → e.answer ≡ reply_to m (q ++ fired_moves before) e.call

none_reported : (a r : Answer) (x : Option Answer) → a ≡ r → IsCorrection a r x → x ≡ None
none_reported a r None is h = refl
none_reported a r (Some x) is h = absurd (h.1 is)

some_reported : (a r : Answer) (x : Option Answer) → a ≢ r → IsCorrection a r x → x ≢ None
some_reported a r None other h = λ _. other h
some_reported a r (Some x) other h = λ none. absurd cc

legal_first : (m : Machine) (q : List Move) (e : Event) (es : List Event) → AreLegal m q (e ∷ es) → e.answer ≡ reply_to m q e.call
legal_first m q e es legal = subst (λ p. e.answer ≡ reply_to m p e.call) (append-nil q) (legal [] es e refl)

legal_rest : (m : Machine) (q : List Move) (e : Event) (es : List Event) → AreLegal m q (e ∷ es) → AreLegal m (moves_with q e) es
legal_rest m q e es legal before after x stands =
    subst (λ p. x.answer ≡ reply_to m p x.call) (sym (moves_joined q (move_of e) (fired_moves before)))
    (legal (e ∷ before) after x (ap (λ l. e ∷ l) stands))

legal_notes : (m : Machine) (q : List Move) (n : ℕ) (es : List Event) (xs : List Note) → AreLegal m q es →
    AreNotesOf m q n es xs → All HasNoCorrection xs
legal_notes m q n [] [] legal h = All-nil HasNoCorrection
legal_notes m q n (e ∷ es) (x ∷ xs) legal h =
    All-cons HasNoCorrection x xs
    (none_reported e.answer (reply_to m q e.call) x.right (legal_first m q e es legal) h.0.right)
    (legal_notes m (moves_with q e) (n + 1) es xs (legal_rest m q e es legal) h.1)
legal_notes m q n es xs legal h = absurd h

pub legal_trace : LegalTrace
legal_trace part h notes are legal = legal_notes (machine_of part h) [] 0 h.events notes legal are

-- the note behind the first ones, which tell nothing, tells the right answer
abbrev IsFirstToTell : List Note → ℕ → Type 0
IsFirstToTell xs k = All HasNoCorrection (take k xs) × ((x : Note) × (slice_get xs k ≡ Some x) × (x.right ≢ None))

first_reported : (m : Machine) (q : List Move) (n : ℕ) (before after : List Event) (e : Event) (xs : List Note) →
    AreLegal m q before → e.answer ≢ reply_to m (q ++ fired_moves before) e.call →
    AreNotesOf m q n (before ++ e ∷ after) xs → IsFirstToTell xs (length before)
first_reported m q n [] after e [] legal wrong h = absurd h
first_reported m q n [] after e (x ∷ xs) legal wrong h =
    let here = subst (λ p. e.answer ≢ reply_to m p e.call) (append-nil q) wrong in
    (All-nil HasNoCorrection, (x, refl, some_reported e.answer (reply_to m q e.call) x.right here h.0.right))
first_reported m q n (b ∷ before) after e [] legal wrong h = absurd h
first_reported m q n (b ∷ before) after e (x ∷ xs) legal wrong h =
    let later = subst (λ p. e.answer ≢ reply_to m p e.call) (sym (moves_joined q (move_of b) (fired_moves before))) wrong in
    let rest = first_reported m (moves_with q b) (n + 1) before after e xs (legal_rest m q b before legal) later h.1 in (
      All-cons HasNoCorrection x (take (length before) xs)
          (none_reported b.answer (reply_to m q b.call) x.right (legal_first m q b before legal) h.0.right) rest.0,
      rest.1,
    )

pub first_wrong_reported : FirstWrongIsCorrected
first_wrong_reported part h notes k are first =
    let m = machine_of part h in
    let split = subst (λ es. AreNotesOf m [] 0 es notes) (sym first.stands) are in
    subst (IsFirstToTell notes) first.counted
    (first_reported m [] 0 first.before first.after first.event notes first.legal first.wrong split)

-- ---- the right answer to a fire

-- the right reply is written in full, whatever was answered
pub right_of_fire : (given : Answer) (r : Reply) → right_json_of given (answer.Fire r) ≡ reply_json_of r
right_of_fire (answer.Read n vs) r = refl
right_of_fire (answer.Fire s) r = refl
