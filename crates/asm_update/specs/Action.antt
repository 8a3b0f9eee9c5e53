-- Actions: regular updates, and partial updates of a family.
use Rattle.std.specs.Prelude.{ℕ, ◌≤◌, ◌<◌, ◌^◌, ◌&&◌, ◌==◌, Bool, true, false, List, All}
use Rattle.std.specs.Prelude.{Option, Some, None, is_none, is_some, FitsSigned}
use Rattle.std.specs.Int.{w64}
use Rattle.std.specs.Ordering.{eq_by_cmp}
use Rattle.std.specs.Option.{option_map_or, option_map}
use Rattle.asm_element.specs.Element as element
use Rattle.asm_element.specs.Element.{number_in}
use Rattle.asm_element.specs.declared.element.Element.TheVariants.{Num}
use Rattle.asm_element.specs.Place as place
use Rattle.asm_element.specs.Place.{location_cmp}
use Rattle.asm_element.specs.Value as value
use Rattle.asm_element.specs.declared.value.Value.{Value}
use Rattle.asm_element.specs.declared.value.Value.TheVariants as values
use Rattle.asm_update.specs.declared.action.Action.{Action}
use Rattle.asm_update.specs.declared.action.Action.TheVariants.{Regular, SetAdd, SetRemove, BagAdd, BagRemove, Increment}
use Rattle.asm_update.specs.declared.action.Family.{Family}
use Rattle.asm_update.specs.declared.action.Family.TheVariants.{Set, Bag, Count}
use Rattle.asm_update.specs.declared.action.Instruction.{Instruction}

-- the family of a partial update; a regular one has none
abbrev pub family_of : Action → Option Family
family_of (Regular _) = None
family_of (SetAdd _) = Some Set
family_of (SetRemove _) = Some Set
family_of (BagAdd _ _) = Some Bag
family_of (BagRemove _ _) = Some Bag
family_of (Increment _) = Some Count

-- whether an action is a regular update
abbrev pub is_regular : Action → Bool
is_regular a = is_none (family_of a)

-- whether an action is a partial update
abbrev pub is_partial : Action → Bool
is_partial a = is_some (family_of a)

-- the family whose partial updates are for values of this kind
abbrev pub kind_of : Value → Option Family
kind_of (values.Plain e) = option_map (λ _. Count) (number_in e)
kind_of (values.Set _) = Some Set
kind_of (values.Bag _) = Some Bag

-- whether two families are the same
abbrev pub family_eq : Family → Family → Bool
family_eq Set Set = true
family_eq Bag Bag = true
family_eq Count Count = true
family_eq _ _ = false

-- whether an action is a partial update of this family
abbrev pub is_of : Family → Action → Bool
is_of f a = option_map_or (family_eq f) (family_of a) false

-- the value that a regular update writes
abbrev pub regular_value : Action → Option Value
regular_value (Regular v) = Some v
regular_value _ = None

-- one that a program can hold: what it has is well-formed, an amount is 1 to 4,294,967,295, an increment in the range
-- of i64
abbrev pub IsProper : Action → Type 0
IsProper (Regular v) = value.IsProper v
IsProper (SetAdd e) = element.IsProper e
IsProper (SetRemove e) = element.IsProper e
IsProper (BagAdd e n) = element.IsProper e × (1 ≤ n) × (n < 2 ^ 32)
IsProper (BagRemove e n) = element.IsProper e × (1 ≤ n) × (n < 2 ^ 32)
IsProper (Increment n) = FitsSigned w64 n

-- each action of the list is well-formed
abbrev pub AllProper : List Action → Type 0
AllProper = All IsProper

-- its location and its action are well-formed
abbrev pub IsProperInstruction : Instruction → Type 0
IsProperInstruction i = place.IsProper i.at × IsProper i.action

-- the number of an action's kind
abbrev pub kind_number : Action → ℕ
kind_number (Regular _) = 0
kind_number (SetAdd _) = 1
kind_number (SetRemove _) = 2
kind_number (BagAdd _ _) = 3
kind_number (BagRemove _ _) = 4
kind_number (Increment _) = 5

-- the amount that is added or removed; of any other action 0
abbrev pub amount_of : Action → ℕ
amount_of (BagAdd _ n) = n
amount_of (BagRemove _ n) = n
amount_of _ = 0

-- the value that is written, the element that is added or removed, or the number that is added
abbrev pub content_of : Action → Value
content_of (Regular v) = v
content_of (SetAdd e) = values.Plain e
content_of (SetRemove e) = values.Plain e
content_of (BagAdd e _) = values.Plain e
content_of (BagRemove e _) = values.Plain e
content_of (Increment n) = values.Plain (Num n)

-- whether two actions are of one kind, with equal amounts and equal contents
abbrev pub action_eq : Action → Action → Bool
action_eq a b =
    kind_number a == kind_number b && (amount_of a == amount_of b && value.value_eq (content_of a) (content_of b))

-- whether two instructions have equal locations and equal actions
abbrev pub instruction_eq : Instruction → Instruction → Bool
instruction_eq i k = eq_by_cmp location_cmp i.at k.at && action_eq i.action k.action
