-- Scans: all locations of a function name at once, and which of them was written since.
use Rattle.std.specs.Prelude.{◌≡◌, ℕ, Bool, false, ◌&&◌, nat_eq, nat_lt, List, Option, MatchOption}
use Rattle.std.specs.Cmp.Lexicographic.{pointwise}
use Rattle.asm_element.specs.Place.{Place}
use Rattle.asm_update.specs.Fire.{Part}
use Rattle.asm_update.specs.Move.{Move, IsLeast}
use Rattle.asm_update.specs.State.{State}
use Rattle.asm_state.specs.FollowsFrom.{is_stale}

-- whether the location has this function name
abbrev pub has_name : List ℕ → Place → Bool
has_name name l = pointwise nat_eq l.name name

-- whether the location has the name, and was last written by a move above the number
abbrev pub is_newer : List ℕ → ℕ → Place → ℕ → Bool
is_newer name number l writer = has_name name l && nat_lt number writer

-- whether the location has the name, and one of the moves after the first `number` overwrites it
abbrev pub is_rewritten : Part → State → List Move → List ℕ → ℕ → Place → Bool
is_rewritten part A q name number l = has_name name l && is_stale part A q l number

-- the smallest location that passes the test; where there is none, no location passes
abbrev pub IsLeastOf : (Place → Bool) → Option Place → Type 0
IsLeastOf test found = MatchOption found ((l : Place) → test l ≡ false) (IsLeast test)
