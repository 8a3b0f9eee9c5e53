-- What an aggregator means: the families it owns, what a group gives, what two lists in a row join to; its laws; and
-- what its calls answer.
use Rattle.std.specs.Prelude.{◌≡◌, ◌≢◌, Bool, true, false, List, [], ◌∷◌, ◌++◌, IsPermutation}
use Rattle.std.specs.Prelude.{Result, Ok, Err, IsOk, Option, None, Some, unwrap_or}
use Rattle.std.specs.List.{list_any, list_all}
use Rattle.std.specs.declared.vec.Vec.{Vec}
use Rattle.std.specs.declared.alloc.Global.{Global}
use Rattle.asm_element.specs.Value as value
use Rattle.asm_element.specs.declared.value.Value.{Value}
use Rattle.asm_update.specs.Action.{is_of, is_partial, kind_of, AllProper}
use Rattle.asm_update.specs.Fire.{Part, GroupResult}
use Rattle.asm_update.specs.declared.action.Action.{Action}
use Rattle.asm_update.specs.declared.action.Family.{Family}
use Rattle.asm_update.specs.declared.clash.Cause.{Cause}
use Rattle.asm_update.specs.declared.clash.Cause.TheVariants.{Mixed}
use Rattle.asm_update.specs.declared.error.ResultError.{ResultError}
use Rattle.asm_update.specs.declared.error.ResultError.TheVariants as result_error
use Rattle.asm_update.specs.declared.error.JoinError.{JoinError}
use Rattle.asm_update.specs.declared.error.JoinError.TheVariants as join_error

-- why two lists have no join: a cause, or an amount that no partial update can have
pub data NoJoin : Type 0 where
  Refused : Cause → NoJoin
  TooLarge : NoJoin

-- the list that does what two lists in turn do, or the refusal
abbrev pub Joined : Type 0
Joined = Result (List Action) NoJoin

-- which families are owned, what a group with partials gives on an old value, and the join of two lists of partials
pub record Meaning : Type 0 where
  pub owns : Family → Bool
  pub part : Part
  pub joins : List Action → List Action → Joined

-- what a list of partials gives on a value: an empty list leaves it unchanged
abbrev pub after : Meaning → Value → List Action → GroupResult
after a v [] = Ok v
after a v (p ∷ ps) = a.part v None (p ∷ ps)

-- what every aggregator keeps
pub record AggregatorLaws (a : Meaning) : Type 0 where
  -- the order of a group's partials is no matter
  pub any_order : (old : Value) (regular : Option Value) (partials reordered : List Action) →
      IsPermutation partials reordered → a.part old regular reordered ≡ a.part old regular partials
  -- partials that aren't all of one family that is owned are `Mixed`
  pub mixed : (old : Value) (regular : Option Value) (partials : List Action) →
      ((f : Family) → a.owns f ≡ true → list_all (is_of f) partials ≡ false) →
      a.part old regular partials ≡ Err Mixed
  -- where the first list has a result, the joined one gives what the second gives after it
  pub join_is_sequence : (v w : Value) (first second joined : List Action) →
      value.IsProper v → AllProper first → AllProper second → first ++ second ≢ [] →
      a.joins first second ≡ Ok joined → after a v first ≡ Ok w → after a v joined ≡ after a w second
  -- where the join is refused, no value lets the first and then the second have results
  pub refused_join : (v w x : Value) (first second : List Action) (refusal : NoJoin) →
      value.IsProper v → AllProper first → AllProper second → first ++ second ≢ [] →
      a.joins first second ≡ Err refusal → after a v first ≡ Ok w → after a w second ≢ Ok x
  -- a regular value is the result, or there is a cause
  pub regular_result : (old v w : Value) (partials : List Action) → a.part old (Some v) partials ≡ Ok w → w ≡ v
  -- and which of them doesn't depend on the old value
  pub regular_decides : (old other v : Value) (partials : List Action) →
      a.part old (Some v) partials ≡ a.part other (Some v) partials
  -- partials of a family have a result on a base of the family's kind alone, and it is of that kind
  pub kind_kept : (f : Family) (old w : Value) (regular : Option Value) (partials : List Action) →
      partials ≢ [] → list_all (is_of f) partials ≡ true → a.part old regular partials ≡ Ok w →
      (kind_of (unwrap_or regular old) ≡ Some f) × (kind_of w ≡ Some f)
  -- what is well-formed stays well-formed
  pub proper_kept : (old w : Value) (partials : List Action) →
      value.IsProper old → AllProper partials → a.part old None partials ≡ Ok w → value.IsProper w
  -- a join has partials alone
  pub join_is_partial : (first second joined : List Action) →
      a.joins first second ≡ Ok joined → list_all is_partial joined ≡ true
  -- each of them of a family that one of the two sides has
  pub join_family : (f : Family) (first second joined : List Action) →
      a.joins first second ≡ Ok joined → list_any (is_of f) joined ≡ true →
      list_any (is_of f) (first ++ second) ≡ true

-- a call answers this outcome: its value, or its cause; an allocation failure says nothing
abbrev pub IsOutcome : Result Value ResultError → GroupResult → Type 0
IsOutcome (Ok value) outcome = outcome ≡ Ok value
IsOutcome (Err (result_error.Cause cause)) outcome = outcome ≡ Err cause
IsOutcome (Err result_error.Memory) outcome = Unit {0}

-- a call returns whether this outcome is a value, or else its cause; an allocation failure says nothing
abbrev pub IsAdmitted : Result (Unit {0}) ResultError → GroupResult → Type 0
IsAdmitted (Ok _) outcome = IsOk outcome
IsAdmitted (Err (result_error.Cause cause)) outcome = outcome ≡ Err cause
IsAdmitted (Err result_error.Memory) outcome = Unit {0}

-- a call leaves this outcome's value, or answers its cause; an allocation failure says nothing
abbrev pub IsLeft : Result (Unit {0}) ResultError → Value → GroupResult → Type 0
IsLeft (Ok _) left outcome = outcome ≡ Ok left
IsLeft (Err (result_error.Cause cause)) left outcome = outcome ≡ Err cause
IsLeft (Err result_error.Memory) left outcome = Unit {0}

-- a call answers this join: its list, or its refusal; an allocation failure says nothing
abbrev pub IsJoined : Result (Vec Action Global) JoinError → Joined → Type 0
IsJoined (Ok actions) joined = joined ≡ Ok actions.items
IsJoined (Err (join_error.Cause cause)) joined = joined ≡ Err (Refused cause)
IsJoined (Err join_error.Large) joined = joined ≡ Err TooLarge
IsJoined (Err join_error.Memory) joined = Unit {0}
