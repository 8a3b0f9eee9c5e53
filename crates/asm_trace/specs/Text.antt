-- The text of a trace, and the laws of traces.
use Rattle.std.specs.Prelude.{◌≡◌, ℕ, Bool, true, false, not, List, [], ◌∷◌, ◌++◌, length, map, filter, slice_get, codes, Option, None, Some, option_map, ◌≢◌, All, take}
use Rattle.std.specs.List.{flat_map, range_with_len}
use Rattle.serde_json.specs.Data.{Data, object, Members, member, no_members, put}
use Rattle.asm_element.specs.Place.{Place}
use Rattle.asm_element.specs.declared.element.Element.{Element}
use Rattle.asm_element.specs.declared.value.Value.{Value}
use Rattle.asm_element.specs.Value.{value_eq}
use Rattle.asm_update.specs.Move.{Move}
use Rattle.asm_update.specs.State.{State}
use Rattle.asm_update.specs.Fire.{Part, state_of}
use Rattle.asm_state.specs.FollowsFrom.{FollowsFrom}
use Rattle.asm_state.specs.View.{StateView}
use Rattle.asm_storage.specs.declared.call.Answer.{Answer}
use Rattle.asm_storage.specs.declared.call.Answer.TheVariants as answer
use Rattle.asm_storage.specs.declared.history.Event.{Event}
use Rattle.asm_storage.specs.declared.history.History.{History}
use Rattle.asm_journal.specs.Check.{machine, machine_of, moves_with, IsFirstWrong}
use Rattle.asm_journal.specs.Element.{element_json_of, location_json_of}
use Rattle.asm_journal.specs.Event.{call_json_of, answer_json_of}
use Rattle.asm_journal.specs.Shape.{list_of, pair_of, one_of, two_of, number_json_of}
use Rattle.asm_journal.specs.Text.{header_members_of, line}
use Rattle.asm_journal.specs.Value.{value_json_of}
use Rattle.asm_trace.specs.Change.{Change, OfSet, OfBag, OfValue, Recount, without, recounts, changed}
use Rattle.asm_trace.specs.Note.{Note, IsNoteOf, AreNotesOf, IsJudged, all_changes}
use Rattle.asm_element.specs.Bag.{ElementBag, count}
use Rattle.asm_element.specs.Set.{ElementSet, contains}
use Rattle.asm_update.specs.Aggregator.{Meaning, AggregatorLaws}
use Rattle.asm_storage.specs.History.{fired_moves, IsLegal}
use Rattle.asm_storage.specs.Machine.{reply_to}
use Rattle.asm_storage.specs.Proper.{IsProper}

-- ---- changes

-- [ELEMENT, ..]
abbrev pub elements_json_of : List Element → Data
elements_json_of es = list_of (map element_json_of es)

-- [ELEMENT,COUNT,COUNT]
abbrev pub recount_json_of : Recount → Data
recount_json_of r = list_of (element_json_of r.element ∷ number_json_of r.before ∷ number_json_of r.after ∷ [])

-- [LOC,{"added":[ELEMENT, ..],"removed":[ELEMENT, ..]}], [LOC,{"counts":[[ELEMENT,COUNT,COUNT], ..]}] or [LOC,OLD,NEW]
abbrev pub change_json_of : Place → Change → Data
change_json_of l (OfSet added removed) =
    pair_of (location_json_of l)
    (two_of (codes "added") (elements_json_of added) (codes "removed") (elements_json_of removed))
change_json_of l (OfBag rs) = pair_of (location_json_of l) (one_of (codes "counts") (list_of (map recount_json_of rs)))
change_json_of l (OfValue old new) = list_of (location_json_of l ∷ value_json_of old ∷ value_json_of new ∷ [])

-- [CHANGE, ..]
abbrev pub changes_json_of : List (Place × Change) → Data
changes_json_of cs = list_of (map (λ c. change_json_of c.0 c.1) cs)

-- ---- events

-- the members, with this one in front of them if it is there
abbrev pub some_member : List ℕ → Option Data → Members → Members
some_member key None ms = ms
some_member key (Some d) ms = member key d ms

-- the members, with this value at the key if there is one
abbrev pub with_some : List ℕ → Option Data → Members → Members
with_some key None ms = ms
with_some key (Some d) ms = put key d ms

-- {"agent":N,"call":CALL,"event":N,"reply":REPLY}, and "right" and "updates" where there are such
abbrev pub event_with : ℕ → Event → Option Data → Option Data → Data
event_with n e right updates =
    object (member (codes "agent") (number_json_of e.agent) (member (codes "call") (call_json_of e.call)
    (member (codes "event") (number_json_of n) (member (codes "reply") (answer_json_of e.answer)
    (some_member (codes "right") right (some_member (codes "updates") updates no_members))))))

-- whether a value that was answered is missing, or another than the right one
abbrev pub is_other : Option Value → Option Value → Bool
is_other (Some given) (Some right) = not (value_eq given right)
is_other None (Some right) = true
is_other given None = false

-- whether the right value at a position was not answered
abbrev pub is_other_at : List Value → List Value → ℕ → Bool
is_other_at given right i = is_other (slice_get given i) (slice_get right i)

-- the positions of the right values that were not answered, ascending
abbrev pub differing_positions : List Value → List Value → List ℕ
differing_positions given right = filter (is_other_at given right) (range_with_len 0 (length right))

-- the right answer beside the given one: of two reads {"differs":[N, ..],"number":N}, the positions of the values
-- that differ and the right number; else the complete right answer
abbrev pub right_json_of : Answer → Answer → Data
right_json_of (answer.Read n given) (answer.Read number right) =
    two_of (codes "differs") (list_of (map number_json_of (differing_positions given right))) (codes "number") (number_json_of number)
right_json_of given right = answer_json_of right

-- the JSON of the right answer beside the event's own, after the moves that the state has followed
abbrev pub IsRightJson : Part → ℕ → Event → StateView → Data → Type 0
IsRightJson part capacity e s d =
    (right : Answer) × (d ≡ right_json_of e.answer right)
    × ((init : State) (q : List Move) → FollowsFrom part init s q → right ≡ reply_to (machine part init capacity) q e.call)

-- once an event is judged on a state: the JSON of its right answer where it has another, and the new state has followed
-- its move too
abbrev pub IsJudgedAs : Part → ℕ → Event → StateView → StateView → Option Data → Type 0
IsJudgedAs part capacity e old new o =
    (reported : Option Answer) × (o ≡ option_map (right_json_of e.answer) reported) × IsJudged part capacity e old new reported

-- the JSON of a note
abbrev pub note_json_of : Note → Data
note_json_of x =
    event_with x.number x.event (option_map (right_json_of x.event.answer) x.right) (option_map changes_json_of x.changes)

-- ---- the text

-- {"agents":N,"capacity":N,"events":N,"init":[PAIR, ..],"trace":1}
abbrev pub header_of : History → Data
header_of h = object (header_members_of h (member (codes "trace") (number_json_of 1) no_members))

-- a line for each note
abbrev pub notes_text : List Note → List ℕ
notes_text xs = flat_map (λ x. line (note_json_of x)) xs

-- a header line, and a line for each event's note
abbrev pub IsTrace : Part → History → List ℕ → Type 0
IsTrace part h text =
    (notes : List Note) × AreNotesOf (machine_of part h) [] 0 h.events notes
    × (text ≡ line (header_of h) ++ notes_text notes)

-- once an event is written on a state: the line of its note is appended, and the new state has followed its move too
abbrev pub IsNoteAppended : Part → ℕ → ℕ → Event → StateView → StateView → List ℕ → List ℕ → Type 0
IsNoteAppended part capacity n e old new before after = (init : State) (q : List Move) → FollowsFrom part init old q →
    ((x : Note) × IsNoteOf (machine part init capacity) q n e x × (after ≡ before ++ line (note_json_of x)))
    × FollowsFrom part init new (moves_with q e)

-- A history has at most one trace.
abbrev pub OneTrace : Type 0
OneTrace = (part : Part) (h : History) (s t : List ℕ) → IsTrace part h s → IsTrace part h t → s ≡ t

-- these are the notes of the history's trace
abbrev pub AreNotes : Part → History → List Note → Type 0
AreNotes part h notes = AreNotesOf (machine_of part h) [] 0 h.events notes

-- the note has no other answer
abbrev pub HasNoCorrection : Note → Type 0
HasNoCorrection x = x.right ≡ None

-- The trace of a legal history reports no wrong answer.
abbrev pub LegalTrace : Type 0
LegalTrace = (part : Part) (h : History) (notes : List Note) → AreNotes part h notes →
    IsLegal (machine_of part h) h.events → All HasNoCorrection notes

-- Where the answer of an event is the first wrong one, its note is the first that has the right one.
abbrev pub FirstWrongIsCorrected : Type 0
FirstWrongIsCorrected = (part : Part) (h : History) (notes : List Note) (k : ℕ) → AreNotes part h notes →
    IsFirstWrong (machine_of part h) h.events k →
    All HasNoCorrection (take k notes) × ((x : Note) × (slice_get notes k ≡ Some x) × (x.right ≢ None))

-- The changes of a trace, made one after the other on the opening state, leave the state that the fired moves leave.
abbrev pub ChangesReachState : Type 0
ChangesReachState = (a : Meaning) → AggregatorLaws a → (h : History) (notes : List Note) → IsProper h →
    AreNotes a.part h notes → changed h.init (all_changes notes) ≡ state_of a.part h.init (fired_moves h.events)

-- An added element of a set change wasn't there and is there, and a removed one was there and isn't.
abbrev pub WithoutListsDifference : Type 0
WithoutListsDifference = (s t : ElementSet) → All (λ e. (contains s e ≡ true) × (contains t e ≡ false)) (without s t)

-- A bag change has the counts of both bags, which differ.
abbrev pub RecountsListCounts : Type 0
RecountsListCounts = (a b : ElementBag) →
    All (λ r. (r.before ≡ count a r.element) × (r.after ≡ count b r.element) × (r.before ≢ r.after)) (recounts a b)
