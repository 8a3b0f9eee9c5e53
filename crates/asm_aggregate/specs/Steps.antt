-- What the steps on the way to a result or a join answer.
use Rattle.std.specs.Prelude.{◌≡◌, ℕ, ◌+◌, ◌-◌, ◌<◌, Bool, true, false, nat_lt, if◌then◌else◌, List, [], ◌∷◌, Option, None}
use Rattle.std.specs.Prelude.{Some}
use Rattle.std.specs.Prelude.{Result, Ok, Err}
use Rattle.std.specs.List.{list_any}
use Rattle.std.specs.declared.alloc.Global.{Global}
use Rattle.std.specs.declared.vec.Vec.{Vec}
use Rattle.asm_element.specs.declared.element.Element.{Element}
use Rattle.asm_element.specs.Bag.{ElementBag, count}
use Rattle.asm_update.specs.declared.action.Action.{Action}
use Rattle.asm_update.specs.declared.clash.Cause.{Cause}
use Rattle.asm_update.specs.declared.clash.Cause.TheVariants.{Short, Large as LargeCount}
use Rattle.asm_update.specs.declared.error.ResultError.{ResultError}
use Rattle.asm_update.specs.declared.error.ResultError.TheVariants as result_error
use Rattle.asm_update.specs.declared.error.JoinError.{JoinError}
use Rattle.asm_update.specs.declared.error.JoinError.TheVariants as join_error
use Rattle.asm_aggregate.specs.BagMeaning.{bag_action, bag_actions, element_of, is_either_large}
use Rattle.asm_aggregate.specs.Sets.{is_the}
use Rattle.asm_aggregate.specs.declared.side.Side.{Side}

-- whether the action is of bags and names the element
abbrev pub names : Element → Action → Bool
names e x = is_the e (element_of x)

-- the addition or removal of an amount, or none where it is 0
abbrev pub one_action : Side → Element → ℕ → List Action
one_action side e n = if nat_lt 0 n then bag_action side e n ∷ [] else []

-- one count of each element is another with this more
abbrev pub IsMoreBy : (Element → ℕ) → (Element → ℕ) → (Element → ℕ) → Type 0
IsMoreBy less more by = (e : Element) → less e + by e ≡ more e

-- whether one of the actions names the element
abbrev pub names_in : List Action → Element → Bool
names_in actions e = list_any (names e) actions

-- a count that is brought up to another where it is below it
abbrev pub raised : ℕ → ℕ → ℕ
raised n to = n + (to - n)

-- a count that is brought down to another where it is above it
abbrev pub lowered : ℕ → ℕ → ℕ
lowered n to = n - (n - to)

-- of the chosen elements a bag's counts are moved towards another's, and the others stay
pub record IsMoved (move : ℕ → ℕ → ℕ) (chosen : Element → Bool) (old to new : ElementBag) : Type 0 where
  pub counts : (e : Element) →
      count new e ≡ (if chosen e then move (count old e) (count to e) else count old e)

-- the error is `Short`, and some element has fewer than are removed
abbrev pub IsShort : (Element → ℕ) → (Element → ℕ) → ResultError → Type 0
IsShort there gone (result_error.Cause Short) = (e : Element) × (there e < gone e)
IsShort there gone _ = ⊥

-- the error is `Large`, and some count would be above what a bag can have; or memory was refused
abbrev pub IsAbove : (Element → ℕ) → ResultError → Type 0
IsAbove count (result_error.Cause LargeCount) = (e : Element) × (4294967295 < count e)
IsAbove count result_error.Memory = Unit {0}
IsAbove count _ = ⊥

-- the error is `Large`, where the test holds; or memory was refused
abbrev pub IsLargeIf : Bool → JoinError → Type 0
IsLargeIf test join_error.Large = test ≡ true
IsLargeIf test join_error.Memory = Unit {0}
IsLargeIf test (join_error.Cause cause) = ⊥

-- the answer is the actions of these amounts, or one of them is too large; or memory was refused
abbrev pub AreActions : (Side → Element → ℕ) → List Element → Result (Vec Action Global) JoinError → Type 0
AreActions f es (Ok list) = (list_any (is_either_large f) es ≡ false) × (list.items ≡ bag_actions f es)
AreActions f es (Err error) = IsLargeIf (list_any (is_either_large f) es) error

-- the answer is this cause, or that there is none; or memory was refused
abbrev pub IsRefusedFor : Result (Unit {0}) JoinError → Option Cause → Type 0
IsRefusedFor (Ok _) cause = cause ≡ None
IsRefusedFor (Err (join_error.Cause refused)) cause = cause ≡ Some refused
IsRefusedFor (Err join_error.Large) cause = ⊥
IsRefusedFor (Err join_error.Memory) cause = Unit {0}
