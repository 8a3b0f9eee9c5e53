-- What is shown over a state at the locations of one function.
use Rattle.std.specs.Prelude.{◌≡◌, ◌-◌, ◌^◌, ◌&&◌, not, min, ℕ, List, Option, None, Some, true, false, is_some, if◌then◌else◌}
use Rattle.std.specs.FinMap as map
use Rattle.asm_element.specs.Place.{Place, location_cmp}
use Rattle.asm_element.specs.Value.{is_undef}
use Rattle.asm_element.specs.declared.value.Value.{Value}
use Rattle.asm_update.specs.State.{State, val}
use Rattle.asm_state.specs.Scans.{has_name}
use Rattle.asm_state.specs.View.{StateView, value_at}

-- the largest count that is reported
abbrev pub count_limit : ℕ
count_limit = 2 ^ 64 - 1

-- so many locations have a value by this look-up
abbrev pub IsCountOf : (Place → Option Value) → ℕ → Type 0
IsCountOf found n = (P : State) × ((l : Place) → map.get P l ≡ found l) × (n ≡ min (map.len P) count_limit)

-- what is shown at a location of the function at which the state has a value
abbrev pub shown_there : StateView → List ℕ → (Place → Value) → Place → Option Value
shown_there s name shown l =
    if has_name name l && (not (is_undef (value_at s l)) && not (is_undef (shown l))) then Some (shown l) else None

-- the same, where the state has its opening value
abbrev pub shown_as_opened : StateView → List ℕ → (Place → Value) → Place → Option Value
shown_as_opened s name shown l =
    if has_name name l && (not (is_undef (val s.base l)) && (not (is_some (map.get s.entries l)) && not (is_undef (shown l))))
    then Some (shown l) else None

-- a value is shown at a location of the function
abbrev pub IsOneShown : List ℕ → (Place → Value) → Type 0
IsOneShown name shown = (l : Place) × (has_name name l ≡ true) × (is_undef (shown l) ≡ false)

-- no value is shown at a location of the function at which the map has something
abbrev pub HidesAll : {X : Type 0} → map.FinMap location_cmp X → List ℕ → (Place → Value) → Type 0
HidesAll m name shown = (l : Place) → has_name name l ≡ true → is_some (map.get m l) ≡ true → is_undef (shown l) ≡ true

-- no value is shown at a location of the function at which the state has one
abbrev pub IsNoneShown : StateView → List ℕ → (Place → Value) → Type 0
IsNoneShown s name shown =
    (l : Place) → has_name name l ≡ true → is_undef (value_at s l) ≡ false → is_undef (shown l) ≡ true

-- what was found, and what the other state has at each location where nothing is below
abbrev pub with_own : (Place → Value) → State → (Place → Option Value) → Place → Option Value
with_own below own found l = if is_some (map.get own l) && is_undef (below l) then map.get own l else found l
