-- Fires that depend on whole functions: what such a fire names beside its reads, and what it then depends on.
use Rattle.std.specs.Prelude.{◌≡◌, false, List, [], ◌∷◌, ◌++◌, length, take, All, IsTrue, ◌≤◌}
use Rattle.std.specs.Prelude.{Option, Some, None, string_bytes}
use Rattle.std.specs.List.{Contains}
use Rattle.asm_element.specs.Place.{Place}
use Rattle.asm_update.specs.Fire.{Part}
use Rattle.asm_update.specs.Move.{Move, IsLeast}
use Rattle.asm_update.specs.State.{State, val}
use Rattle.asm_state.specs.Scans.{has_name, is_rewritten}
use Rattle.asm_state.specs.FollowsFrom.{is_stale}
use Rattle.asm_state.specs.declared.named.Named.{Named}
use Rattle.asm_state.specs.declared.scanned.Scanned.{Scanned}
use Rattle.asm_storage.specs.declared.call.Reply.{Reply}
use Rattle.asm_storage.specs.declared.call.Reply.TheVariants as reply
use Rattle.asm_storage.specs.Machine.{Machine, machine_state}

-- the reads, and one more behind them if there is one
abbrev pub with_found : List Named → Option Named → List Named
with_found reads None = reads
with_found reads (Some r) = reads ++ r ∷ []

-- none of the moves after the scan wrote a location of its name
abbrev pub IsUnwritten : Part → State → List Move → Scanned → Type 0
IsUnwritten part A q s = (l : Place) → is_rewritten part A q (string_bytes s.name) s.number l ≡ false

-- the read names, at the scan's number, the smallest location of its name that one of the moves after it wrote
pub record IsOvertaken (part : Part) (A : State) (q : List Move) (r : Named) (s : Scanned) : Type 0 where
  pub least : IsLeast (is_rewritten part A q (string_bytes s.name) s.number) r.at
  pub number : r.number ≡ s.number

-- what is found of the scans after these moves: one that was overtaken, by a read that names what was written; or none was
abbrev pub IsFound : Part → State → List Move → List Scanned → Option Named → Type 0
IsFound part A q scans None = All (IsUnwritten part A q) scans
IsFound part A q scans (Some r) = (s : Scanned) × Contains scans s × IsOvertaken part A q r s

-- the reads that a fire names which depends on these reads and scans: the reads, and what is found of the scans
pub record IsNamedOver (m : Machine) (q : List Move) (reads : List Named) (scans : List Scanned) (named : List Named)
    : Type 0 where
  pub found : Option Named
  pub named_is : named ≡ with_found reads found
  pub found_is : IsFound m.part m.init q scans found

-- after these moves the function is as at its scan: none after the scan wrote a location of its name, so each of
-- these, whether it has a value or none, has the value that it had
pub record IsKept (m : Machine) (q : List Move) (s : Scanned) : Type 0 where
  pub unwritten : (l : Place) → IsTrue (has_name (string_bytes s.name) l) →
      is_stale m.part m.init q l s.number ≡ false
  pub value : s.number ≤ length q → (l : Place) → IsTrue (has_name (string_bytes s.name) l) →
      val (machine_state m (take s.number q)) l ≡ val (machine_state m q) l

-- what a reply after these moves depends on beside the reads. A stale one has a read that is stale, or one that names
-- what was found of the scans; with any other nothing was found, and each function is as at its scan
abbrev pub DependsOn : Machine → List Move → List Scanned → Option Named → Reply → Type 0
DependsOn m q scans found (reply.Stale l) = IsFound m.part m.init q scans found
DependsOn m q scans found r = (found ≡ None) × All (IsKept m q) scans
