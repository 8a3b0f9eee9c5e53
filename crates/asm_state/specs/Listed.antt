-- Locations with their values, listed in ascending order.
use Rattle.std.specs.Prelude.{◌≡◌, List, map}
use Rattle.std.specs.Borrow.{Bor}
use Rattle.std.specs.FinMap as finite
use Rattle.asm_element.specs.Place.{Place}
use Rattle.asm_element.specs.declared.value.Value.{Value}
use Rattle.asm_update.specs.State.{IsProper, State, val}

-- the list has exactly the locations of a state without undef, each with its value, in ascending order, and the state
-- is one of these
abbrev pub IsListOf : (State → Type 0) → List (Place × Value) → Type 0
IsListOf is list = (S : State) × IsProper S × is S × (list ≡ finite.entries S)

-- the same, where the values of the state are these
abbrev pub IsListing : (Place → Value) → List (Place × Value) → Type 0
IsListing values = IsListOf (λ S. (l : Place) → val S l ≡ values l)

-- what a list of references refers to
abbrev pub by_value : {X : Type 0} → List (Bor Place × Bor X) → List (Place × X)
by_value es = map (λ e. (e.0.now, e.1.now)) es
