-- Firing: a move's result at each of its locations, or its clash at the least one that has none.
use Rattle.std.specs.Prelude.{◌≡◌, true, false, List, [], ◌∷◌, Option, Some, None}
use Rattle.std.specs.Prelude.{Result, Ok, Err, IsOk, IsSomeAnd, if◌then◌else◌, filter, map}
use Rattle.std.specs.List.{filter_map}
use Rattle.std.specs.declared.cmp.Ordering.TheVariants.{Less}
use Rattle.std.specs.FinMap as finite
use Rattle.asm_element.specs.Place.{Place, location_cmp}
use Rattle.asm_element.specs.declared.value.Value.{Value}
use Rattle.asm_update.specs.Action.{is_partial, regular_value}
use Rattle.asm_update.specs.Move.{Move, actions_at, are_different, writes}
use Rattle.asm_update.specs.State.{State, Updates, val, overwrite}
use Rattle.asm_update.specs.declared.action.Action.{Action}
use Rattle.asm_update.specs.declared.clash.Cause.{Cause}
use Rattle.asm_update.specs.declared.clash.Cause.TheVariants.{Two}
use Rattle.asm_update.specs.declared.clash.Clash.{Clash}
use Rattle.asm_update.specs.declared.clash.AggError.{AggError}
use Rattle.asm_update.specs.declared.clash.AggError.TheVariants.{Clash as Clashes, Memory}

-- a value, or the cause why there is none
abbrev pub GroupResult : Type 0
GroupResult = Result Value Cause

-- what an aggregator makes of the old value, the group's regular value if it has one, and its partials
abbrev pub Part : Type 0
Part = Value → Option Value → List Action → GroupResult

-- the first value, if there is one
abbrev pub first : List Value → Option Value
first [] = None
first (v ∷ vs) = Some v

-- a regular value alone is the result, and partials are the aggregator's
abbrev pub group_result : Part → Value → Option Value → List Action → GroupResult
group_result part old (Some v) [] = Ok v
group_result part old (Some v) (p ∷ ps) = part old (Some v) (p ∷ ps)
group_result part old None ps = part old None ps

-- the result of the actions at one location on the old value
abbrev pub res : Part → Value → List Action → GroupResult
res part old G =
    if are_different (filter_map regular_value G) then Err Two
    else group_result part old (first (filter_map regular_value G)) (filter is_partial G)

-- what a state or a look-up gives at each location
abbrev pub Old : Type 0
Old = Place → Value

-- the result of a move at a location
abbrev pub result_at : Part → Old → Move → Place → GroupResult
result_at part old M l = res part (old l) (actions_at M l)

-- the set of the locations that a move writes
abbrev pub written : Move → finite.FinMap location_cmp (Unit {0})
written [] = finite.empty
written (i ∷ M) = finite.insert (written M) i.at tt

-- its locations, each once, in ascending order
abbrev pub locations : Move → List Place
locations M = finite.keys (written M)

-- the values of the outcomes, or the first cause, with its location
abbrev pub gathered : Updates → List (Place × GroupResult) → Result Updates Clash
gathered U [] = Ok U
gathered U ((l, Ok v) ∷ rest) = gathered (finite.insert U l v) rest
gathered U ((l, Err cause) ∷ rest) = Err (record { at = l; cause = cause })

-- the update set of a move, or its clash at the smallest location that has no result
abbrev pub aggregated : Part → Old → Move → Result Updates Clash
aggregated part old M = gathered finite.empty (map (λ l. (l, result_at part old M l)) (locations M))

-- the state with the updates, or the clash
abbrev pub overwritten : State → Result Updates Clash → Result State Clash
overwritten A (Ok U) = Ok (overwrite A U)
overwritten A (Err clash) = Err clash

-- the state with the update set of the move, or the clash
abbrev pub fire : Part → State → Move → Result State Clash
fire part A M = overwritten A (aggregated part (val A) M)

-- the second move on the state that the first leaves, or the first's clash
abbrev pub then_fire : Part → Result State Clash → Move → Result State Clash
then_fire part (Ok A) M = fire part A M
then_fire part (Err clash) M = Err clash

-- two moves, one after the other
abbrev pub sequence : Part → State → Move → Move → Result State Clash
sequence part A M N = then_fire part (fire part A M) N

-- a move that clashes changes nothing
abbrev pub state_or : State → Result State Clash → State
state_or A (Ok B) = B
state_or A (Err clash) = A

-- the state that the moves leave, each fired in its turn
abbrev pub state_of : Part → State → List Move → State
state_of part A [] = A
state_of part A (M ∷ q) = state_of part (state_or A (fire part A M)) q

-- the updates have the result at each location that the move writes, and no other location
pub record IsUpdateSet (part : Part) (old : Old) (M : Move) (U : Updates) : Type 0 where
  pub written : (l : Place) → writes M l ≡ true → IsSomeAnd (finite.get U l) (λ v. result_at part old M l ≡ Ok v)
  pub others : (l : Place) → writes M l ≡ false → finite.get U l ≡ None

-- the clash is at the smallest location that the move writes and where there is no result
pub record IsLeastClash (part : Part) (old : Old) (M : Move) (clash : Clash) : Type 0 where
  pub written : writes M clash.at ≡ true
  pub cause : result_at part old M clash.at ≡ Err clash.cause
  pub least : (l : Place) → location_cmp l clash.at ≡ Less → writes M l ≡ true → IsOk (result_at part old M l)

-- a clash that is answered is the one of firing, whatever partial updates mean; an allocation failure says nothing
abbrev pub TellsClash : State → Move → AggError → Type 0
TellsClash A M (Clashes c) = (part : Part) → fire part A M ≡ Err c
TellsClash A M Memory = Unit {0}
