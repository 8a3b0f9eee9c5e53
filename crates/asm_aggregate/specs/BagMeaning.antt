-- What partial updates of a bag mean.
use Rattle.std.specs.Prelude.{ℕ, ◌+◌, ◌-◌, Bool, ◌||◌, not, nat_lt, List, [], ◌∷◌, ◌++◌, map, filter, is_some, sum_by}
use Rattle.std.specs.Prelude.{if◌then◌else◌, Option, None, Some, unwrap_or, Ok, Err}
use Rattle.std.specs.List.{list_any, list_all}
use Rattle.std.specs.Ordering.{eq_by_cmp}
use Rattle.asm_element.specs.Element.{element_cmp}
use Rattle.asm_element.specs.declared.element.Element.{Element}
use Rattle.asm_element.specs.Set as set
use Rattle.asm_element.specs.Bag.{ElementBag, empty, count, set_count}
use Rattle.asm_element.specs.declared.value.Value.{Value}
use Rattle.asm_element.specs.declared.value.Value.TheVariants as values
use Rattle.asm_update.specs.Action.{family_eq, is_of}
use Rattle.asm_update.specs.Aggregator.{Meaning, Joined, Refused, TooLarge}
use Rattle.asm_update.specs.Fire.{GroupResult}
use Rattle.asm_update.specs.declared.action.Action.{Action}
use Rattle.asm_update.specs.declared.action.Action.TheVariants.{BagAdd, BagRemove}
use Rattle.asm_update.specs.declared.action.Family.{Family}
use Rattle.asm_update.specs.declared.action.Family.TheVariants.{Bag}
use Rattle.asm_update.specs.declared.clash.Cause.TheVariants.{Mixed, Kind, Against, Short, Large}
use Rattle.asm_aggregate.specs.Families.{is_kind}
use Rattle.asm_aggregate.specs.Side.{other}
use Rattle.asm_aggregate.specs.Sets.{elements_by}
use Rattle.asm_aggregate.specs.Table.{first_cause}
use Rattle.asm_aggregate.specs.declared.side.Side.{Side}
use Rattle.asm_aggregate.specs.declared.side.Side.TheVariants.{Added, Removed}

-- the aggregator of bags owns bags alone
abbrev pub owns_bags : Family → Bool
owns_bags = family_eq Bag

-- a bag's counts, and none of any other value
abbrev pub counts : Value → ElementBag
counts (values.Bag b) = b
counts _ = empty

-- how many of an element an action adds, or how many it removes
abbrev pub amount : Side → Element → Action → ℕ
amount Added e (BagAdd x n) = if eq_by_cmp element_cmp e x then n else 0
amount Removed e (BagRemove x n) = if eq_by_cmp element_cmp e x then n else 0
amount _ _ _ = 0

-- how many of it the actions add together, or how many they remove
abbrev pub amount_in : Side → List Action → Element → ℕ
amount_in side actions e = sum_by (amount side e) actions

-- the element of a partial update of a bag
abbrev pub element_of : Action → Option Element
element_of (BagAdd x _) = Some x
element_of (BagRemove x _) = Some x
element_of _ = None

-- the elements that the actions name, in ascending order
abbrev pub named : List Action → List Element
named actions = set.elements (elements_by element_of actions)

-- whether a number is above what a count or an amount can be
abbrev pub is_large : ℕ → Bool
is_large n = nat_lt 4294967295 n

-- the count of an element after the actions: old − removed + added
abbrev pub new_count : ElementBag → List Action → Element → ℕ
new_count b actions e = (count b e - amount_in Removed actions e) + amount_in Added actions e

-- the bag with these counts of the elements of the list
abbrev pub recounted : ElementBag → (Element → ℕ) → List Element → ElementBag
recounted b f [] = b
recounted b f (e ∷ es) = set_count (recounted b f es) e (f e)

-- the bag after the actions
abbrev pub renewed : ElementBag → List Action → ElementBag
renewed b actions = recounted b (new_count b actions) (named actions)

-- whether the actions remove more of an element than the bag has
abbrev pub short : ElementBag → List Action → Bool
short b actions = list_any (λ e. nat_lt (count b e) (amount_in Removed actions e)) (named actions)

-- whether a count after the actions is above what a bag can have
abbrev pub large : ElementBag → List Action → Bool
large b actions = list_any (λ e. is_large (new_count b actions e)) (named actions)

-- what partial updates of bags give on a bag; no partial updates leave it unchanged
abbrev pub tabled : ElementBag → List Action → GroupResult
tabled b actions =
    if short b actions then Err Short
    else if large b actions then Err Large
    else Ok (values.Bag (renewed b actions))

-- what a group gives on an old value
abbrev pub bag_result : Value → Option Value → List Action → GroupResult
bag_result old regular partials =
    let base = unwrap_or regular old in
    let before = counts base in
    first_cause
    ((not (list_all (is_of Bag) partials), Mixed)
    ∷ (not (is_kind Bag base), Kind)
    ∷ (is_some regular, Against)
    ∷ (list_any (λ e. nat_lt (count before e) (amount_in Removed partials e)) (named partials), Short)
    ∷ (list_any (λ e. is_large (new_count before partials e)) (named partials), Large)
    ∷ [])
    (values.Bag (recounted before (new_count before partials) (named partials)))

-- the second list's amount on a side, and what its other side leaves of the first's; `-` ends at 0
abbrev pub left_over : Side → List Action → List Action → Element → ℕ
left_over side one two e = amount_in side two e + (amount_in side one e - amount_in (other side) two e)

-- how many of an element the first and then the second add, or remove: an addition is lessened by later removals,
-- and a removal by earlier additions
abbrev pub joined_amount : List Action → List Action → Side → Element → ℕ
joined_amount first second Added e = left_over Added first second e
joined_amount first second Removed e = left_over Removed second first e

-- the elements whose amount isn't 0
abbrev pub counted : (Element → ℕ) → List Element → List Element
counted f es = filter (λ e. nat_lt 0 (f e)) es

-- the addition of an amount, or its removal
abbrev pub bag_action : Side → Element → ℕ → Action
bag_action Added e n = BagAdd e n
bag_action Removed e n = BagRemove e n

-- the additions of the amounts that aren't 0, or their removals
abbrev pub bag_side : Side → (Element → ℕ) → List Element → List Action
bag_side side f es = map (λ e. bag_action side e (f e)) (counted f es)

-- additions by element, then removals by element
abbrev pub bag_actions : (Side → Element → ℕ) → List Element → List Action
bag_actions f es = bag_side Added (f Added) es ++ bag_side Removed (f Removed) es

-- whether what is added or removed of an element is more than an amount can be
abbrev pub is_either_large : (Side → Element → ℕ) → Element → Bool
is_either_large f e = is_large (f Added e) || is_large (f Removed e)

-- the list that does what the first and then the second do
abbrev pub bag_joins : List Action → List Action → Joined
bag_joins first second =
    let es = named (first ++ second) in
    first_cause
    ((not (list_all (is_of Bag) first), Refused Mixed)
    ∷ (not (list_all (is_of Bag) second), Refused Mixed)
    ∷ (list_any (is_either_large (joined_amount first second)) es, TooLarge)
    ∷ [])
    (bag_actions (joined_amount first second) es)

-- the aggregator of bags
abbrev pub bag_meaning : Meaning
bag_meaning = record { owns = owns_bags; part = bag_result; joins = bag_joins }
