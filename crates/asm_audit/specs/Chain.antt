-- Legal histories, each of which opens with the state that the one before it leaves.
use Rattle.std.specs.Prelude.{◌≡◌, ℕ, List, [], ◌∷◌}
use Rattle.asm_update.specs.Fire.{Part}
use Rattle.asm_update.specs.State.{State}
use Rattle.asm_storage.specs.History.{fired_moves, IsLegal}
use Rattle.asm_storage.specs.Machine.{machine_state}
use Rattle.asm_storage.specs.declared.history.History.{History}
use Rattle.asm_journal.specs.Check.{machine_of}
use Rattle.asm_audit.specs.Text.{IsBegun, HasJournals}

-- the state that the moves of a history leave
abbrev pub state_left : Part → History → State
state_left part h = machine_state (machine_of part h) (fired_moves h.events)

-- the state that the last of the histories leaves; if there is none, the opening state
abbrev pub last_left : Part → State → List History → State
last_left part A [] = A
last_left part A (h ∷ hs) = last_left part (state_left part h) hs

-- each history is legal; the first opens with this state, and each further one with what the one before it leaves
abbrev pub AreLegalFrom : Part → State → List History → Type 0
AreLegalFrom part A [] = Unit {0}
AreLegalFrom part A (h ∷ hs) =
    (h.init ≡ A) × IsLegal (machine_of part h) h.events × AreLegalFrom part (state_left part h) hs

-- the text begins with the journals of these histories, which are such a chain, and the first of which opens with
-- this state
pub record HasLegal (part : Part) (first : State) (hs : List History) (text rest : List ℕ) : Type 0 where
  pub journals : HasJournals hs text rest
  pub legal : AreLegalFrom part first hs

-- the text is the beginning of a part, which opens with this state, and the rest; the history has the events that were
-- read, and is legal
pub record IsGoing (part : Part) (A : State) (v count : ℕ) (h : History) (text rest : List ℕ) : Type 0 where
  pub begun : IsBegun v count h text rest
  pub opens : h.init ≡ A
  pub legal : IsLegal (machine_of part h) h.events
