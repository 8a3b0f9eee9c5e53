-- The run of parts that continue one another.
use Rattle.std.specs.Prelude.{◌≡◌, ℕ, List, [], ◌∷◌, ◌++◌, length}
use Rattle.asm_update.specs.Fire.{Part, state_of}
use Rattle.asm_update.specs.State.{State}
use Rattle.asm_storage.specs.History.{fired_moves}
use Rattle.asm_storage.specs.declared.history.Event.{Event}
use Rattle.asm_storage.specs.declared.history.History.{History}
use Rattle.asm_journal.specs.Check.{machine}
use Rattle.asm_journal.specs.Next.{IsRunFromStart}
use Rattle.asm_audit.specs.Chain.{last_left}
use Rattle.asm_audit.specs.Audited.{moves_of}

-- the events of the histories, all in turn
abbrev pub all_events : List History → List Event
all_events [] = []
all_events (h ∷ hs) = h.events ++ all_events hs

-- the moves of the histories, all in turn, are a run from this state, whatever the capacity: each fires on the state that
-- the one before it left; they are as many as the histories have, and leave what the last history leaves
pub record IsOneRun (part : Part) (A : State) (hs : List History) : Type 0 where
  pub run : (capacity : ℕ) → IsRunFromStart (machine part A capacity) (all_events hs)
  pub count : length (fired_moves (all_events hs)) ≡ moves_of hs
  pub leaves : state_of part A (fired_moves (all_events hs)) ≡ last_left part A hs
