-- What a move makes of a location, as a list of what differs from before; what it means to make a change; and groups
-- of partial updates that change what they name alone.
use Rattle.std.specs.Prelude.{ℕ, Bool, not, nat_eq, List, [], ◌∷◌, ◌++◌, map, filter, Result, Ok, Err, ◌≡◌, true, Option, None, Some}
use Rattle.std.specs.FinMap as finite
use Rattle.asm_element.specs.Bag as bag
use Rattle.asm_element.specs.Bag.{ElementBag, count, set_count}
use Rattle.asm_element.specs.Place.{Place}
use Rattle.asm_element.specs.Set as set
use Rattle.asm_element.specs.Set.{ElementSet, contains}
use Rattle.asm_element.specs.declared.element.Element.{Element}
use Rattle.asm_element.specs.declared.value.Value.{Value}
use Rattle.asm_element.specs.declared.value.Value.TheVariants as values
use Rattle.asm_update.specs.Fire.{Part, Old, aggregated, GroupResult}
use Rattle.asm_update.specs.Move.{Move}
use Rattle.asm_update.specs.State.{State, Updates, val, write}
use Rattle.asm_update.specs.declared.clash.Clash.{Clash}
use Rattle.asm_aggregate.specs.Sets.{difference, with_elements, is_the}
use Rattle.std.specs.List.{list_any}
use Rattle.asm_update.specs.declared.action.Action.{Action}
use Rattle.asm_update.specs.declared.action.Action.TheVariants.{SetAdd, SetRemove, BagAdd, BagRemove}

-- an element of a bag, with its count before and the one after
pub record Recount : Type 0 where
  pub element : Element
  pub before : ℕ
  pub after : ℕ

-- of a set, the elements that come and those that go; of a bag, the counts that differ; else the value before and the
-- one after
pub data Change : Type 0 where
  OfSet : List Element → List Element → Change
  OfBag : List Recount → Change
  OfValue : Value → Value → Change

-- ---- what differs

-- whether the set hasn't the element
abbrev pub is_missing : ElementSet → Element → Bool
is_missing s e = not (set.contains s e)

-- the elements of the first set that the second hasn't, in ascending order
abbrev pub without : ElementSet → ElementSet → List Element
without s t = filter (is_missing t) (set.elements s)

-- the elements that one bag or the other has
abbrev pub either : ElementBag → ElementBag → ElementSet
either a b = set.from_list (bag.elements a ++ bag.elements b)

-- whether two bags hold the element a different number of times
abbrev pub differ_at : ElementBag → ElementBag → Element → Bool
differ_at a b e = not (nat_eq (count a e) (count b e))

-- the elements that two bags hold a different number of times
abbrev pub differing : ElementBag → ElementBag → ElementSet
differing a b = finite.retain_keys (either a b) (differ_at a b)

-- the element with its counts in both bags
abbrev pub recount : ElementBag → ElementBag → Element → Recount
recount a b e = record { element = e; before = count a e; after = count b e }

-- the elements that two bags hold a different number of times, each with both counts, in ascending order
abbrev pub recounts : ElementBag → ElementBag → List Recount
recounts a b = map (recount a b) (set.elements (differing a b))

-- what a location changes by that has the first value and gets the second
abbrev pub change_of : Value → Value → Change
change_of (values.Set s) (values.Set t) = OfSet (without t s) (without s t)
change_of (values.Bag a) (values.Bag b) = OfBag (recounts a b)
change_of old new = OfValue old new

-- what each of the updates changes, in ascending order of locations
abbrev pub changes_by : Old → Updates → List (Place × Change)
changes_by old U = map (λ p. (p.0, change_of (old p.0) p.1)) (finite.entries U)

-- what a move changes: nothing where it clashes
abbrev pub changes_or_none : Old → Result Updates Clash → List (Place × Change)
changes_or_none old (Ok U) = changes_by old U
changes_or_none old (Err clash) = []

-- what the move changes where locations have these values
abbrev pub changes_of : Part → Old → Move → List (Place × Change)
changes_of part old M = changes_or_none old (aggregated part old M)

-- ---- to make a change

-- the bag with the new counts
abbrev pub with_counts : ElementBag → List Recount → ElementBag
with_counts b [] = b
with_counts b (r ∷ rs) = set_count (with_counts b rs) r.element r.after

-- the value after the change: a set without the elements that go and with those that come, a bag with the new counts,
-- or the new value
abbrev pub made : Change → Value → Value
made (OfSet added removed) (values.Set s) = values.Set (with_elements (difference s (set.from_list removed)) added)
made (OfBag rs) (values.Bag b) = values.Bag (with_counts b rs)
made (OfValue old new) v = new
made _ v = v

-- the state after changes, made one after the other
abbrev pub changed : State → List (Place × Change) → State
changed A [] = A
changed A (c ∷ cs) = changed (write A c.0 (made c.1 (val A c.0))) cs

-- the element that a partial update adds or removes
abbrev pub element_named : Action → Option Element
element_named (SetAdd e) = Some e
element_named (SetRemove e) = Some e
element_named (BagAdd e _) = Some e
element_named (BagRemove e _) = Some e
element_named _ = None

-- whether the action names the element
abbrev pub names : Element → Action → Bool
names e x = is_the e (element_named x)

-- whether one of the actions does
abbrev pub is_named : List Action → Element → Bool
is_named ps e = list_any (names e) ps

-- two values are the same to actions: sets that both have or both lack each element that these name, bags that hold it the
-- same number of times, or else the same value
abbrev pub AreSameTo : List Action → Value → Value → Type 0
AreSameTo ps (values.Set s) (values.Set t) = (e : Element) → is_named ps e ≡ true → contains s e ≡ contains t e
AreSameTo ps (values.Bag a) (values.Bag b) = (e : Element) → is_named ps e ≡ true → count a e ≡ count b e
AreSameTo ps v w = v ≡ w

-- what a value changes by that gets this result; none where there is no result
abbrev pub change_by : Value → GroupResult → Option Change
change_by old (Ok new) = Some (change_of old new)
change_by old (Err cause) = None

-- values that are the same to partial updates change alike by them
abbrev pub IsLocal : Part → Type 0
IsLocal part = (v w : Value) (ps : List Action) → AreSameTo ps v w → change_by w (part w None ps) ≡ change_by v (part v None ps)

-- the change of one location, if there is one
abbrev pub changes_at : Place → Option Change → List (Place × Change)
changes_at l None = []
changes_at l (Some c) = (l, c) ∷ []
