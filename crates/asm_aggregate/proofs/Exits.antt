-- What a call answers where a step of it has an error.
use Rattle.std.proofs.Common.{◌≡◌, ℕ, ◌<◌, Bool, true, false, List, [], ◌∷◌, sym, subst}
use Rattle.std.specs.Prelude.{Result, Ok, Err, None, IsOk, if◌then◌else◌, refl}
use Rattle.asm_element.specs.declared.element.Element.{Element}
use Rattle.asm_update.specs.Aggregator.{Joined, NoJoin, Refused as Refuses, TooLarge, IsAdmitted, IsOutcome, IsJoined}
use Rattle.asm_update.specs.Fire.{GroupResult}
use Rattle.asm_update.specs.declared.action.Action.{Action}
use Rattle.asm_update.specs.declared.clash.Cause.TheVariants.{Short, Large, Mixed, Both}
use Rattle.asm_update.specs.declared.error.ResultError.{ResultError}
use Rattle.asm_update.specs.declared.error.ResultError.TheVariants.{Cause as Refused, Memory}
use Rattle.asm_update.specs.declared.error.JoinError.{JoinError}
use Rattle.asm_update.specs.declared.error.JoinError.TheVariants as join_error
use Rattle.asm_aggregate.specs.Compose.{cause_of}
use Rattle.asm_aggregate.specs.Steps.{IsShort, IsAbove, IsLargeIf}
use Rattle.asm_aggregate.specs.Table.{first_cause}

-- an error that is handed on
pub handed_on : {T E : Type 0} (Q : Result T E → Type 0) (r : Result T E) (e d : E) → r ≡ Err e → e ≡ d → Q (Err d) →
    Q r
handed_on Q r e d h k q = subst Q (sym h) (subst (λ (x : _). Q (Err x)) (sym k) q)

pub short_error : (there gone there' gone' : Element → ℕ) (error : ResultError) →
    ((e : Element) × (there e < gone e) → (e : Element) × (there' e < gone' e)) → IsShort there gone error →
    IsShort there' gone' error
short_error there gone there' gone' (Refused Short) f h = f h
short_error there gone there' gone' error f h = absurd h

pub above_error : (count count' : Element → ℕ) (error : ResultError) →
    ((e : Element) × (4294967295 < count e) → (e : Element) × (4294967295 < count' e)) → IsAbove count error →
    IsAbove count' error
above_error count count' (Refused Large) f h = f h
above_error count count' Memory f h = tt
above_error count count' error f h = absurd h

pub short_outcome : (there gone : Element → ℕ) (error : ResultError) (outcome : GroupResult) →
    ((e : Element) × (there e < gone e) → outcome ≡ Err Short) → IsShort there gone error →
    IsOutcome (Err error) outcome
short_outcome there gone (Refused Short) outcome f h = f h
short_outcome there gone Memory outcome f h = tt
short_outcome there gone error outcome f h = absurd h

pub above_outcome : (count : Element → ℕ) (error : ResultError) (outcome : GroupResult) →
    ((e : Element) × (4294967295 < count e) → outcome ≡ Err Large) → IsAbove count error → IsOutcome (Err error) outcome
above_outcome count (Refused Large) outcome f h = f h
above_outcome count Memory outcome f h = tt
above_outcome count error outcome f h = absurd h

pub large_join : (test : Bool) (error : JoinError) (joined : Joined) → (test ≡ true → joined ≡ Err TooLarge) →
    IsLargeIf test error → IsJoined (Err error) joined
large_join test join_error.Large joined f h = f h
large_join test join_error.Memory joined f h = tt
large_join test (join_error.Cause cause) joined f h = absurd h

pub large_error : (test more : Bool) (error : JoinError) → (test ≡ true → more ≡ true) → IsLargeIf test error →
    IsLargeIf more error
large_error test more join_error.Large f h = f h
large_error test more join_error.Memory f h = tt
large_error test more (join_error.Cause cause) f h = absurd h

no_refusal : {P : Type 0} (v : List Action) (r : NoJoin) → Ok v ≡ Err r → P
no_refusal v r h = cc

-- a list that is refused of itself is refused whatever else the table has
pub table_refused : (mixed both : Bool) (error : JoinError) (rest : Joined) →
    IsJoined (Err error) (first_cause ((mixed, Refuses Mixed) ∷ (both, Refuses Both) ∷ []) []) →
    IsJoined (Err error) (if mixed then Err (Refuses Mixed) else if both then Err (Refuses Both) else rest)
table_refused true both error rest h = h
table_refused false true error rest h = h
table_refused false false (join_error.Cause cause) rest h = no_refusal [] (Refuses cause) h
table_refused false false join_error.Large rest h = no_refusal [] TooLarge h
table_refused false false join_error.Memory rest h = tt

-- what is admitted has no cause
none_of_ok : (outcome : GroupResult) → IsOk outcome → cause_of outcome ≡ None
none_of_ok (Ok value) h = refl
none_of_ok (Err cause) h = cc

pub admitted_none : (r : Result (Unit {0}) ResultError) (u : Unit {0}) (outcome : GroupResult) → r ≡ Ok u →
    IsAdmitted r outcome → cause_of outcome ≡ None
admitted_none r u outcome is h = none_of_ok outcome (subst (λ (s : Result (Unit {0}) ResultError). IsAdmitted s outcome) is h)
