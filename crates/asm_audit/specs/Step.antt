-- What the steps of an audit do.
use Rattle.std.specs.Prelude.{◌≡◌, ◌≤◌, ◌+◌, ◌↔◌, Bool, IsTrue, Option, Some, None}
use Rattle.asm_element.specs.Place.{Place}
use Rattle.asm_update.specs.State.{State, IsProper, val}
use Rattle.asm_state.specs.View.{StateView, value_at}
use Rattle.asm_audit.specs.declared.part_auditor.PartAuditor.{PartAuditor}
use Rattle.asm_audit.specs.declared.progress.Counts.{Counts}
use Rattle.asm_audit.specs.Fault.{counted}

-- the numbers with those of the part that is being read
abbrev pub whole_with : Counts → PartAuditor → Counts
whole_with w o =
    record {
      calls = counted (w.calls + o.taken);
      moves = counted (w.moves + o.state.number);
      parts = counted (w.parts + 1);
    }

abbrev pub all_with : Counts → Option PartAuditor → Counts
all_with w None = w
all_with w (Some o) = whole_with w o

-- no part is being read, or all its events were taken
abbrev pub is_between : Option PartAuditor → Type 0
is_between None = Unit {0}
is_between (Some o) = o.limits.events ≤ o.taken

-- a state that a program can hold, with these values
abbrev pub HasValues : StateView → State → Type 0
HasValues s left = ((l : Place) → val left l ≡ value_at s l) × IsProper left

-- the test reports whether this is the state with these values
abbrev pub IsNextTest : StateView → State → Bool → Type 0
IsNextTest s init b =
    (left : State) × HasValues s left × (IsTrue b ↔ (left ≡ init))

-- the test reports it of the part that was read; if there is none, the test is met
abbrev pub IsOnTest : Option PartAuditor → State → Bool → Type 0
IsOnTest None init b = IsTrue b
IsOnTest (Some o) init b = IsNextTest o.state init b
