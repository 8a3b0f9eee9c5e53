-- On which values below them moves rest.
use Rattle.std.specs.Prelude.{◌≡◌, ◌↔◌, ◌&&◌, Bool, true, false, not, if◌then◌else◌, List, [], ◌∷◌, Contains}
use Rattle.std.specs.Prelude.{Option, Some, None, Result, Ok, Err}
use Rattle.std.specs.List.{list_any}
use Rattle.std.specs.List.Sorted.{IsStrictlySortedBy}
use Rattle.std.specs.Ordering.{eq_by_cmp}
use Rattle.asm_element.specs.Place.{Place, location_cmp}
use Rattle.asm_update.specs.Action.{is_regular}
use Rattle.asm_update.specs.Fire.{Old}
use Rattle.asm_update.specs.Move.{Move, actions_at, writes}
use Rattle.asm_update.specs.State.{State, val}
use Rattle.asm_update.specs.declared.action.Action.{Action}
use Rattle.asm_update.specs.declared.action.Instruction.{Instruction}
use Rattle.asm_update.specs.declared.clash.Clash.{Clash}

-- whether the instruction is a regular update at the location
abbrev pub is_put_at : Place → Instruction → Bool
is_put_at l i = eq_by_cmp location_cmp i.at l && is_regular i.action

-- whether the move puts a value at the location: one of its updates there is regular
abbrev pub puts : Move → Place → Bool
puts M l = list_any (is_put_at l) M

-- whether one of the moves writes the location
abbrev pub one_writes : List Move → Place → Bool
one_writes Ms l = list_any (λ M. writes M l) Ms

-- whether what is seen at the location through the moves is made from what is below them: the first that writes there has
-- partial updates alone, or none writes there
abbrev pub sees_below : List Move → Place → Bool
sees_below [] l = true
sees_below (M ∷ Ms) l = if writes M l then not (puts M l) else sees_below Ms l

-- whether the moves depend on the value below: the first that writes there has partial updates alone, and a later one
-- writes there too
abbrev pub depends : List Move → Place → Bool
depends [] l = false
depends (M ∷ Ms) l = if writes M l then not (puts M l) && one_writes Ms l else depends Ms l

-- whether they build on it: the first that writes there has partial updates alone
abbrev pub builds : List Move → Place → Bool
builds Ms l = one_writes Ms l && sees_below Ms l

-- what the first of the moves that writes there does there
abbrev pub first_actions : List Move → Place → List Action
first_actions [] l = []
first_actions (M ∷ Ms) l = if writes M l then actions_at M l else first_actions Ms l

-- where one of the moves alone writes, by partial updates, the one move has its instructions; where none writes it has none
abbrev pub KeepsGroups : List Move → Move → Type 0
KeepsGroups Ms C =
    (l : Place) → sees_below Ms l ≡ true → depends Ms l ≡ false → actions_at C l ≡ first_actions Ms l

-- the state has what is looked up, at each location on which the moves rest
abbrev pub AgreesAtDependencies : State → Old → List Move → Type 0
AgreesAtDependencies A old Ms = (l : Place) → depends Ms l ≡ true → val A l ≡ old l

-- it has what is looked up, if what is seen through the moves there is made from it
abbrev pub AgreesIfSeen : State → Old → List Move → Place → Type 0
AgreesIfSeen A old Ms l = sees_below Ms l ≡ true → val A l ≡ old l

-- the state that is left, if there is no clash
abbrev pub left_by : Result State Clash → Option State
left_by (Ok A) = Some A
left_by (Err clash) = None

-- the list has each location that passes the test once, and no other, in ascending order
pub record AreThose (test : Place → Bool) (ls : List Place) : Type 0 where
  pub ascending : IsStrictlySortedBy location_cmp ls
  pub same : (l : Place) → Contains ls l ↔ (test l ≡ true)
