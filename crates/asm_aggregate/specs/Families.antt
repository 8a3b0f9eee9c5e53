-- Families of lists of partial updates, and of values.
use Rattle.std.specs.Prelude.{Bool, true, false, List, [], ◌∷◌, Option, None, Some, is_some, if◌then◌else◌}
use Rattle.std.specs.Option.{option_and_then}
use Rattle.std.specs.List.{list_all}
use Rattle.asm_element.specs.Element.{number_in}
use Rattle.asm_element.specs.declared.value.Value.{Value}
use Rattle.asm_element.specs.declared.value.Value.TheVariants as values
use Rattle.asm_update.specs.Action.{family_of, is_of}
use Rattle.asm_update.specs.declared.action.Action.{Action}
use Rattle.asm_update.specs.declared.action.Family.{Family}
use Rattle.asm_update.specs.declared.action.Family.TheVariants.{Set, Bag, Count}

-- whether the value is of the kind that partial updates of the family are for
abbrev pub is_kind : Family → Value → Bool
is_kind Set (values.Set _) = true
is_kind Set _ = false
is_kind Bag (values.Bag _) = true
is_kind Bag _ = false
is_kind Count (values.Plain e) = is_some (number_in e)
is_kind Count _ = false

-- the family that all the actions are of, if there is one
abbrev pub common_family : List Action → Option Family
common_family [] = None
common_family (x ∷ xs) = option_and_then (λ f. if list_all (is_of f) xs then Some f else None) (family_of x)
