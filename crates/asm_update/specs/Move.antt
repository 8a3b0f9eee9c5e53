-- Moves: what they do at a location, which locations they write, and where two values differ.
use Rattle.std.specs.Prelude.{◌≡◌, Bool, false, not, List, [], ◌∷◌, IsTrue, map}
use Rattle.std.specs.List.{list_any, list_all, filter_map, filter}
use Rattle.std.specs.Ordering.{eq_by_cmp, is_gt}
use Rattle.asm_element.specs.Place.{Place, location_cmp}
use Rattle.asm_element.specs.Value.{value_eq}
use Rattle.asm_element.specs.declared.value.Value.{Value}
use Rattle.asm_update.specs.Action.{regular_value, is_regular}
use Rattle.asm_update.specs.declared.action.Action.{Action}
use Rattle.asm_update.specs.declared.action.Instruction.{Instruction}

-- a move is its list of instructions
abbrev pub Move : Type 0
Move = List Instruction

-- what a move does at a location
abbrev pub actions_at : Move → Place → List Action
actions_at M l = map (λ i. i.action) (filter (λ i. eq_by_cmp location_cmp i.at l) M)

-- whether a move has an instruction at the location
abbrev pub writes : Move → Place → Bool
writes M l = list_any (λ i. eq_by_cmp location_cmp i.at l) M

-- whether no instruction is partial
abbrev pub all_regular : Move → Bool
all_regular M = list_all (λ i. is_regular i.action) M

-- whether some value of the list differs from the first
abbrev pub are_different : List Value → Bool
are_different [] = false
are_different (v ∷ vs) = list_any (λ w. not (value_eq v w)) vs

-- the values that a move's regular updates write at a location
abbrev pub regular_values : Move → Place → List Value
regular_values M l = filter_map regular_value (actions_at M l)

-- whether a move has two different regular values at the location
abbrev pub has_two : Move → Place → Bool
has_two M l = are_different (regular_values M l)

-- the location passes the test, and no location below it does
pub record IsLeast (test : Place → Bool) (l : Place) : Type 0 where
  pub passes : IsTrue (test l)
  pub least : (k : Place) → IsTrue (test k) → is_gt (location_cmp l k) ≡ false
