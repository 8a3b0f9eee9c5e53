-- A run that continues in another storage.
use Rattle.std.specs.Prelude.{ℕ, List, ◌++◌}
use Rattle.asm_storage.specs.declared.history.Event.{Event}
use Rattle.asm_storage.specs.History.{fired_moves, IsRun, steps_from}
use Rattle.asm_storage.specs.Machine.{Machine, machine_state}

-- the machine that opens with the state which the history's moves leave
abbrev pub next_machine : Machine → List Event → ℕ → Machine
next_machine m h capacity = record { part = m.part; init = machine_state m (fired_moves h); capacity = capacity }

-- the moves of the history are a run of the machine from its opening state
abbrev pub IsRunFromStart : Machine → List Event → Type 0
IsRunFromStart m h = IsRun m m.init (steps_from m m.init h)

-- Where the moves of a history are a run, and those of another are a run of the machine that opens with the state which
-- the first ones leave, all of them in turn are a run of the first machine.
abbrev pub RunContinues : Type 0
RunContinues = (m : Machine) (capacity : ℕ) (first second : List Event) → IsRunFromStart m first →
    IsRunFromStart (next_machine m first capacity) second → IsRunFromStart m (first ++ second)
