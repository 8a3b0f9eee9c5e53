-- The values of a state without their writers, all of them or those of one function name.
use Rattle.std.specs.Prelude.{ℕ, Bool, true, List, Option, Some, None, nat_eq, if◌then◌else◌}
use Rattle.std.specs.Cmp.Lexicographic.{pointwise}
use Rattle.std.specs.Borrow.{Bor}
use Rattle.asm_element.specs.Place.{Place}
use Rattle.asm_element.specs.Value.{undef}
use Rattle.asm_element.specs.declared.value.Value.{Value}
use Rattle.asm_state.specs.View.{StateView, value_at}

-- whether the location has this function name; without a name every location is wanted
abbrev pub is_wanted : Option (Bor (List ℕ)) → Place → Bool
is_wanted None l = true
is_wanted (Some name) l = pointwise nat_eq l.name name.now

-- the value at a location that is wanted, and undef at another
abbrev pub wanted_value : StateView → Option (Bor (List ℕ)) → Place → Value
wanted_value s name l = if is_wanted name l then value_at s l else undef

-- the value at a location with this function name, and undef at another
abbrev pub value_of_name : StateView → List ℕ → Place → Value
value_of_name s name l = if pointwise nat_eq l.name name then value_at s l else undef
