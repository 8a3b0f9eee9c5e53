-- States: finite maps from locations to values other than undef.
use Rattle.std.specs.Prelude.{◌≡◌, false, All, List, [], ◌∷◌, unwrap_or, if◌then◌else◌}
use Rattle.std.specs.FinMap as map
use Rattle.std.specs.List.Sorted.{IsStrictlySortedBy}
use Rattle.std.specs.Map.{keys_of, values_of}
use Rattle.std.specs.Map.Iter.{GivesInOrder}
use Rattle.asm_element.specs.Place as place
use Rattle.asm_element.specs.Place.{Place, location_cmp}
use Rattle.asm_element.specs.Value as value
use Rattle.asm_element.specs.declared.value.Value.{Value}

-- a finite map; a location that it doesn't have is undef
abbrev pub State : Type 0
State = map.FinMap location_cmp Value

-- the state in which each location is undef
abbrev pub empty : State
empty = map.empty

-- the value at a location, which is undef where the state holds nothing
abbrev pub val : State → Place → Value
val A l = unwrap_or (map.get A l) value.undef

-- the state with this value at the location; undef takes the location out
abbrev pub write : State → Place → Value → State
write A l v = if value.is_undef v then map.remove A l else map.insert A l v

-- one value for each of some locations, undef among them
abbrev pub Updates : Type 0
Updates = map.FinMap location_cmp Value

-- the state with each of the values at its location
abbrev pub write_all : State → List (Place × Value) → State
write_all A [] = A
write_all A (e ∷ es) = write (write_all A es) e.0 e.1

-- the state with the value of the updates at each of their locations
abbrev pub overwrite : State → Updates → State
overwrite A U = write_all A (map.entries U)

-- one that a program can hold: it holds no undef, and its locations and values are well-formed
pub record IsProper (A : State) : Type 0 where
  pub locations : All place.IsProper (map.keys A)
  pub values : All value.IsProper (map.values A)
  pub no_undef : All (λ v. value.is_undef v ≡ false) (map.values A)

-- the entries of a state in their stored form: in ascending order of locations, well-formed, and with no undef
pub record AreStateEntries (es : List (Place × Value)) : Type 0 where
  pub ordered : IsStrictlySortedBy location_cmp (keys_of es)
  pub no_undef : All (λ v. value.is_undef v ≡ false) (values_of es)
  pub locations : All place.IsProper (keys_of es)
  pub values : All value.IsProper (values_of es)

-- a walk that gives the entries of the map by value, each once, in ascending order of locations
abbrev pub GivesAscending : Updates → List (Place × Value) → Type 0
GivesAscending U walk =
    (walk ≡ map.entries U) × IsStrictlySortedBy location_cmp (map.keys U) × GivesInOrder (Place × Value)
