-- What partial updates of a set mean.
use Rattle.std.specs.Prelude.{Bool, ◌&&◌, ◌||◌, not, List, [], ◌∷◌, ◌++◌, map, is_some, Option, None, Some, unwrap_or}
use Rattle.std.specs.List.{list_all}
use Rattle.asm_element.specs.Set.{ElementSet, empty, elements}
use Rattle.asm_element.specs.declared.element.Element.{Element}
use Rattle.asm_element.specs.declared.value.Value.{Value}
use Rattle.asm_element.specs.declared.value.Value.TheVariants as values
use Rattle.asm_update.specs.Action.{family_eq, is_of}
use Rattle.asm_update.specs.Aggregator.{Meaning, Joined, Refused}
use Rattle.asm_update.specs.Fire.{GroupResult}
use Rattle.asm_update.specs.declared.action.Action.{Action}
use Rattle.asm_update.specs.declared.action.Action.TheVariants.{SetAdd, SetRemove}
use Rattle.asm_update.specs.declared.action.Family.{Family}
use Rattle.asm_update.specs.declared.action.Family.TheVariants.{Set}
use Rattle.asm_update.specs.declared.clash.Cause.TheVariants.{Mixed, Kind, Both, Against}
use Rattle.asm_aggregate.specs.Families.{is_kind}
use Rattle.asm_aggregate.specs.Sets.{union, difference, meets, is_subset, elements_by}
use Rattle.asm_aggregate.specs.Side.{other}
use Rattle.asm_aggregate.specs.declared.side.Side.{Side}
use Rattle.asm_aggregate.specs.declared.side.Side.TheVariants.{Added, Removed}
use Rattle.asm_aggregate.specs.Table.{first_cause}

-- the aggregator of sets owns sets alone
abbrev pub owns_sets : Family → Bool
owns_sets = family_eq Set

-- a set's elements, and none of any other value
abbrev pub members : Value → ElementSet
members (values.Set s) = s
members _ = empty

-- the element that an action adds, or the one that it removes
abbrev pub element_on : Side → Action → Option Element
element_on Added (SetAdd e) = Some e
element_on Removed (SetRemove e) = Some e
element_on _ _ = None

-- the elements that the actions add, or those that they remove
abbrev pub elements_on : Side → List Action → ElementSet
elements_on side actions = elements_by (element_on side) actions

-- whether one element is both added and removed
abbrev pub adds_and_removes : List Action → Bool
adds_and_removes actions = meets (elements_on Added actions) (elements_on Removed actions)

-- whether the set lacks an added element or has a removed one
abbrev pub disagrees : ElementSet → List Action → Bool
disagrees s actions = not (is_subset (elements_on Added actions) s) || meets (elements_on Removed actions) s

-- the old set without the removed elements and with the added ones
abbrev pub updated : ElementSet → List Action → ElementSet
updated old actions = union (difference old (elements_on Removed actions)) (elements_on Added actions)

-- what a group gives on an old value
abbrev pub set_result : Value → Option Value → List Action → GroupResult
set_result old regular partials =
    let base = unwrap_or regular old in
    first_cause
    ((not (list_all (is_of Set) partials), Mixed)
    ∷ (not (is_kind Set base), Kind)
    ∷ (adds_and_removes partials, Both)
    ∷ (is_some regular && disagrees (members base) partials, Against)
    ∷ [])
    (unwrap_or regular (values.Set (updated (members base) partials)))

-- the elements of both lists on a side, except those of the first that the second has on the other side
abbrev pub joined_elements : List Action → List Action → Side → ElementSet
joined_elements first second side =
    union (difference (elements_on side first) (elements_on (other side) second)) (elements_on side second)

-- the addition of an element, or its removal
abbrev pub set_action : Side → Element → Action
set_action Added e = SetAdd e
set_action Removed e = SetRemove e

-- the additions of the set's elements, or their removals, in ascending order
abbrev pub set_side : Side → ElementSet → List Action
set_side side s = map (λ e. set_action side e) (elements s)

-- additions by element, then removals by element
abbrev pub set_actions : (Side → ElementSet) → List Action
set_actions s = set_side Added (s Added) ++ set_side Removed (s Removed)

-- the list that does what the first and then the second do
abbrev pub set_joins : List Action → List Action → Joined
set_joins first second =
    first_cause
    ((not (list_all (is_of Set) first), Refused Mixed)
    ∷ (adds_and_removes first, Refused Both)
    ∷ (not (list_all (is_of Set) second), Refused Mixed)
    ∷ (adds_and_removes second, Refused Both)
    ∷ [])
    (set_actions (joined_elements first second))

-- the aggregator of sets
abbrev pub set_meaning : Meaning
set_meaning = record { owns = owns_sets; part = set_result; joins = set_joins }
