-- The walk that lists the values of one function: the opening values, and the entries over them.
use Rattle.std.specs.Prelude.{◌≡◌, ◌++◌, ◌∷◌, [], false, ℕ, List, Bool, unwrap_or, if◌then◌else◌}
use Rattle.std.specs.Ordering.{eq_by_cmp, is_lt}
use Rattle.asm_element.specs.Place as place
use Rattle.asm_element.specs.Place.{Place, location_cmp}
use Rattle.asm_element.specs.Value as value
use Rattle.asm_element.specs.Value.{is_undef, undef}
use Rattle.asm_element.specs.declared.value.Value.{Value}
use Rattle.asm_state.specs.Scans.{has_name}
use Rattle.asm_state.specs.declared.entries.WrittenValue.{WrittenValue}

-- the first entries, up to one with another name
abbrev pub front : {X : Type 0} → List ℕ → List (Place × X) → List (Place × X)
front name [] = []
front name (e ∷ es) = if has_name name e.0 then e ∷ front name es else []

-- a location with its value, unless that is undef
abbrev pub seen : Place → Value → List (Place × Value)
seen l v = if is_undef v then [] else (l, v) ∷ []

-- the value of an entry
abbrev pub entry_value : WrittenValue → Value
entry_value w = unwrap_or w.value undef

-- what the entries have
abbrev pub seen_all : List (Place × WrittenValue) → List (Place × Value)
seen_all [] = []
seen_all (w ∷ ws) = seen w.0 (entry_value w.1) ++ seen_all ws

-- what the entries below the location have
abbrev pub seen_below : Place → List (Place × WrittenValue) → List (Place × Value)
seen_below l [] = []
seen_below l (w ∷ ws) = if is_lt (location_cmp w.0 l) then seen w.0 (entry_value w.1) ++ seen_below l ws else []

-- the entries from the location on
abbrev pub from_on : Place → List (Place × WrittenValue) → List (Place × WrittenValue)
from_on l [] = []
from_on l (w ∷ ws) = if is_lt (location_cmp w.0 l) then from_on l ws else w ∷ ws

-- whether the first of the entries is at the location
abbrev pub starts_at : Place → List (Place × WrittenValue) → Bool
starts_at l [] = false
starts_at l (w ∷ ws) = eq_by_cmp location_cmp w.0 l

-- what the opening values show with the entries over them: both lists ascend, and an entry hides an opening value
abbrev pub listing : List (Place × Value) → List (Place × WrittenValue) → List (Place × Value)
listing [] ws = seen_all ws
listing (e ∷ es) ws =
    seen_below e.0 ws
    ++ ((if starts_at e.0 (from_on e.0 ws) then [] else seen e.0 e.1) ++ listing es (from_on e.0 ws))

-- a well-formed location with a well-formed value other than undef
abbrev pub IsListed : Place × Value → Type 0
IsListed e = place.IsProper e.0 × value.IsProper e.1 × (is_undef e.1 ≡ false)
