-- What a trace says of the events of a history.
use Rattle.std.specs.Prelude.{◌≡◌, ◌≢◌, ℕ, ◌+◌, List, [], ◌∷◌, Option, None, Some, option_map, unwrap_or}
use Rattle.std.specs.List.{flat_map}
use Rattle.asm_element.specs.Place.{Place}
use Rattle.asm_update.specs.Move.{Move}
use Rattle.asm_update.specs.State.{State, val}
use Rattle.asm_update.specs.Fire.{Part}
use Rattle.asm_state.specs.FollowsFrom.{FollowsFrom}
use Rattle.asm_state.specs.View.{StateView}
use Rattle.asm_storage.specs.History.{move_of}
use Rattle.asm_storage.specs.Machine.{Machine, machine_state, reply_to}
use Rattle.asm_storage.specs.declared.call.Answer.{Answer}
use Rattle.asm_storage.specs.declared.history.Event.{Event}
use Rattle.asm_journal.specs.Check.{machine, moves_with}
use Rattle.asm_trace.specs.Change.{Change, changes_of}

-- the note of an event: its number, the event itself, the right answer where it has another, and what its move
-- changes where it fired one
pub record Note : Type 0 where
  pub number : ℕ
  pub event : Event
  pub right : Option Answer
  pub changes : Option (List (Place × Change))

-- what comes beside an answer: nothing where it is the right one, and else the right one
abbrev pub IsCorrection : Answer → Answer → Option Answer → Type 0
IsCorrection answer right None = answer ≡ right
IsCorrection answer right (Some reported) = (reported ≡ right) × (answer ≢ right)

-- the note of this event, which has this number and comes after these moves
pub record IsNoteOf (m : Machine) (q : List Move) (n : ℕ) (e : Event) (x : Note) : Type 0 where
  pub number : x.number ≡ n
  pub event : x.event ≡ e
  pub right : IsCorrection e.answer (reply_to m q e.call) x.right
  pub changes : x.changes ≡ option_map (changes_of m.part (val (machine_state m q))) (move_of e)

-- a note for each of the events, of which the first has this number and comes after these moves; each move that an
-- event reports as fired comes before the next event
abbrev pub AreNotesOf : Machine → List Move → ℕ → List Event → List Note → Type 0
AreNotesOf m q n [] [] = Unit {0}
AreNotesOf m q n [] (x ∷ xs) = ⊥
AreNotesOf m q n (e ∷ es) [] = ⊥
AreNotesOf m q n (e ∷ es) (x ∷ xs) = IsNoteOf m q n e x × AreNotesOf m (moves_with q e) (n + 1) es xs

-- all changes of the notes, in their order
abbrev pub all_changes : List Note → List (Place × Change)
all_changes xs = flat_map (λ x. unwrap_or x.changes []) xs

-- ---- one event, on states

-- once an event is judged on a state: its right answer where it has another, and the new state has followed its move
-- too
abbrev pub IsJudged : Part → ℕ → Event → StateView → StateView → Option Answer → Type 0
IsJudged part capacity e old new reported = (init : State) (q : List Move) → FollowsFrom part init old q →
    IsCorrection e.answer (reply_to (machine part init capacity) q e.call) reported × FollowsFrom part init new (moves_with q e)
