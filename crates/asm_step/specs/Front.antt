-- What is done at a location, in a form that one more partial update joins.
use Rattle.std.specs.Prelude.{◌≡◌, ◌≤◌, ◌+◌, ◌++◌, ℕ, Bool, true, false, List, [], ◌∷◌, length, map, nat_lt, if◌then◌else◌, Option, Some, None, Ok, ◌≢◌}
use Rattle.std.specs.List.{flat_map, list_all}
use Rattle.asm_aggregate.specs.Bundle.{bundle_of}
use Rattle.asm_aggregate.specs.Compose.{composed}
use Rattle.asm_aggregate.specs.Sets.{meets}
use Rattle.asm_element.specs.Bag.{ElementBag, entries}
use Rattle.asm_element.specs.Place.{Place}
use Rattle.asm_element.specs.declared.element.Element.{Element}
use Rattle.asm_element.specs.Set.{ElementSet, elements}
use Rattle.asm_element.specs.declared.value.Value.{Value}
use Rattle.asm_update.specs.Action.{is_partial, AllProper, is_of}
use Rattle.asm_update.specs.Aggregator.{Meaning, Joined}
use Rattle.asm_update.specs.declared.action.Action.{Action}
use Rattle.asm_update.specs.declared.action.Action.TheVariants.{Regular, SetAdd, SetRemove, BagAdd, BagRemove}
use Rattle.asm_step.specs.Outcomes.{Outcome, Outcomes}
use Rattle.asm_step.specs.declared.amounts.Amounts.{Amounts}
use Rattle.asm_step.specs.declared.front.Front.{Front}
use Rattle.asm_step.specs.declared.front.Front.TheVariants.{Nothing, Put, Sets, Bags}
use Rattle.asm_step.specs.declared.front.Growth.{Growth}
use Rattle.asm_step.specs.declared.sides.Sides.{Sides}
use Rattle.asm_update.specs.declared.action.Family.{Family}
use Rattle.asm_step.specs.declared.in_place.Known.{Known}
use Rattle.asm_step.specs.declared.in_place.Known.TheVariants.{Own, Other, Unknown}
use Rattle.std.specs.FinMap as finite

-- the addition of an element to a set, or its removal
abbrev pub set_update : Bool → Element → Action
set_update true e = SetAdd e
set_update false e = SetRemove e

-- the additions of the set's elements, or their removals, in ascending order
abbrev pub set_updates : Bool → ElementSet → List Action
set_updates adds s = map (set_update adds) (elements s)

-- additions by element, then removals by element
abbrev pub set_list : ElementSet → ElementSet → List Action
set_list added removed = set_updates true added ++ set_updates false removed

abbrev pub sides_list : Sides → List Action
sides_list s = set_list s.added s.removed

-- the addition of so many of an element to a bag, or their removal
abbrev pub bag_update : Bool → Element → ℕ → Action
bag_update true e n = BagAdd e n
bag_update false e n = BagRemove e n

-- the same, or nothing where there are none of it
abbrev pub so_many : Bool → Element → ℕ → List Action
so_many adds e n = if nat_lt 0 n then bag_update adds e n ∷ [] else []

-- the additions of the bag's elements, or their removals, in ascending order
abbrev pub bag_updates : Bool → ElementBag → List Action
bag_updates adds b = flat_map (λ e. so_many adds e.0 e.1) (entries b)

-- additions by element, then removals by element
abbrev pub bag_list : ElementBag → ElementBag → List Action
bag_list added removed = bag_updates true added ++ bag_updates false removed

abbrev pub amounts_list : Amounts → List Action
amounts_list b = bag_list b.added b.removed

-- the actions that a front represents, which leave this value
abbrev pub front_list : Value → Front → List Action
front_list v Nothing = []
front_list v Put = Regular v ∷ []
front_list v (Sets s) = sides_list s
front_list v (Bags b) = amounts_list b

-- what it adds to a set and what it removes have nothing in common
abbrev pub IsFront : Front → Type 0
IsFront (Sets s) = meets s.added s.removed ≡ false
IsFront f = Unit {0}

-- the value is what the partial update gives on the old one; or nothing is changed
abbrev pub IsChanged : Meaning → Action → Value → Value → Bool → Type 0
IsChanged a x v w true = a.part v None (x ∷ []) ≡ Ok w
IsChanged a x v w false = w ≡ v

-- the set, or the bag, is the one that is wanted; or nothing is changed
abbrev pub IsExchanged : {X : Type 0} → X → X → X → Option Growth → Type 0
IsExchanged old new wanted (Some grown) = new ≡ wanted
IsExchanged old new wanted None = new ≡ old

-- what has so many is now so much longer, by one at most
abbrev pub IsLonger : ℕ → ℕ → Option Growth → Type 0
IsLonger old new (Some grown) = (new + grown.less ≡ old + grown.more) × (grown.more ≤ 1)
IsLonger old new None = Unit {0}

-- the actions that do what these and one more partial update do: the update itself, if there are none before it
abbrev pub joined_to : Meaning → List Action → Action → Joined
joined_to a [] x = Ok (x ∷ [])
joined_to a (y ∷ ys) x = composed a (bundle_of (y ∷ ys)) (bundle_of (x ∷ []))

-- a value and the actions that leave it, before and after one more partial update
pub record Applied (a : Meaning) (x : Action) (v : Value) (xs : List Action) (w : Value) (ys : List Action) (grown : Growth) : Type 0 where
  pub value : a.part v None (x ∷ []) ≡ Ok w
  pub joined : joined_to a xs x ≡ Ok ys
  pub longer : length ys + grown.less ≡ length xs + grown.more
  pub few : grown.more ≤ 1
  pub proper : AllProper xs

-- so it is; or nothing is changed
abbrev pub IsApplied : Meaning → Action → Value → List Action → Value → List Action → Option Growth → Type 0
IsApplied a x v xs w ys (Some grown) = Applied a x v xs w ys grown
IsApplied a x v xs w ys None = (w ≡ v) × (ys ≡ xs)

-- an outcome after a partial update of a later move
pub record ExtendedInPlace (a : Meaning) (x : Action) (old new : Outcome) (grown : Growth) : Type 0 where
  pub partial : is_partial x ≡ true
  pub applied : Applied a x old.value old.actions new.value new.actions grown
  pub builds : new.builds ≡ old.builds
  pub depends : new.depends ≡ old.builds

-- so it is; or nothing is changed
abbrev pub IsExtendedInPlace : Meaning → Action → Outcome → Outcome → Option Growth → Type 0
IsExtendedInPlace a x old new (Some grown) = ExtendedInPlace a x old new grown
IsExtendedInPlace a x old new None = new ≡ old

-- the same at a location
pub record ExtendedInPlaceAt (a : Meaning) (l : Place) (x : Action) (old new : Outcomes) (grown : Growth) : Type 0 where
  pub before : Outcome
  pub after : Outcome
  pub there : finite.get old l ≡ Some before
  pub written : new ≡ finite.insert old l after
  pub extends : ExtendedInPlace a x before after grown

abbrev pub IsExtendedInPlaceAt : Meaning → Place → Action → Outcomes → Outcomes → Option Growth → Type 0
IsExtendedInPlaceAt a l x old new (Some grown) = ExtendedInPlaceAt a l x old new grown
IsExtendedInPlaceAt a l x old new None = new ≡ old

-- the aggregator owns the family, and joins lists of its partial updates by this function
pub record Joins (a : Meaning) (f : Family) (joins : List Action → List Action → Joined) : Type 0 where
  pub owns : a.owns f ≡ true
  pub same : (first second : List Action) → first ≢ [] → list_all (is_of f) first ≡ true →
      list_all (is_of f) second ≡ true → a.joins first second ≡ joins first second

-- so it is where `Own` is answered; where `Other` is, it doesn't own the family
abbrev pub IsKnown : Meaning → Family → (List Action → List Action → Joined) → Known → Type 0
IsKnown a f joins Own = Joins a f joins
IsKnown a f joins Other = a.owns f ≡ false
IsKnown a f joins Unknown = Unit {0}
