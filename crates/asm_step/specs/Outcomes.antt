-- What moves come to at the locations that they write.
use Rattle.std.specs.Prelude.{◌≡◌, ◌≢◌, ◌&&◌, not, Bool, true, false, List, [], ◌∷◌, ◌++◌, map, filter, Option, None, refl, if◌then◌else◌}
use Rattle.std.specs.Coded.{Coded, code_by, coded×, coded_bool, coded_list}
use Rattle.std.specs.FinMap as finite
use Rattle.std.specs.List.{flat_map}
use Rattle.std.specs.Option.{option_map, option_map_or}
use Rattle.std.specs.Ordering.{eq_by_cmp}
use Rattle.asm_element.specs.Place.{Place, location_cmp}
use Rattle.asm_element.specs.declared.value.Value.{Value}
use Rattle.asm_update.specs.Action.{regular_value}
use Rattle.asm_update.specs.Move.{Move, all_regular, writes}
use Rattle.asm_update.specs.State.{Updates}
use Rattle.asm_update.specs.declared.action.Action.{Action}
use Rattle.asm_update.specs.declared.action.Action.TheVariants.{Regular}
use Rattle.asm_update.specs.declared.action.Instruction.{Instruction}
use Rattle.asm_aggregate.specs.Compose.{placed}

-- what moves come to at a location that one of them writes: the value that they leave, the actions that do there what
-- they do in turn, whether they build on the value below (the first of them that writes there has partial updates
-- alone), and whether they depend on it (a later one writes there too)
pub record Outcome : Type 0 where
  pub value : Value
  pub actions : List Action
  pub builds : Bool
  pub depends : Bool

-- it is stored as a tuple
abbrev pub outcome_code : Coded Value → Coded Action → Coded Outcome
outcome_code v a =
    code_by (Value × (List Action × (Bool × Bool))) (coded× v (coded× (coded_list a) (coded× coded_bool coded_bool)))
    (λ o. (o.value, (o.actions, (o.builds, o.depends))))
    (λ p. record { value = p.0; actions = p.1.0; builds = p.1.1.0; depends = p.1.1.1 }) (λ _. refl)

-- an outcome for each of some locations
abbrev pub Outcomes : Type 0
Outcomes = finite.FinMap location_cmp Outcome

-- what the moves do at a location
abbrev pub actions_in : Outcomes → Place → List Action
actions_in os l = option_map_or (λ o. o.actions) (finite.get os l) []

-- whether there are actions
abbrev pub acts : List Action → Bool
acts [] = false
acts (x ∷ xs) = true

-- whether the moves do anything at a location
abbrev pub acts_at : Outcomes → Place → Bool
acts_at os l = acts (actions_in os l)

-- the outcomes above, and at the other locations those below
abbrev pub stacked : Outcomes → Outcomes → Outcomes
stacked below above = finite.from_entries (finite.entries above ++ finite.entries below)

-- the values that are left
abbrev pub frame : Outcomes → Updates
frame os = finite.from_entries (map (λ e. (e.0, e.1.value)) (finite.entries os))

-- the instructions that do what the moves do in turn, by location in ascending order
abbrev pub listed : Outcomes → Move
listed os = flat_map (λ e. placed e.0 e.1.actions) (finite.entries os)

-- where the moves depend on what is below
abbrev pub dependencies_in : Outcomes → List Place
dependencies_in os = map (λ e. e.0) (filter (λ e. e.1.depends) (finite.entries os))

-- what a put of a value comes to where it is the first to write
abbrev pub put_outcome : Value → Outcome
put_outcome v = record { value = v; actions = Regular v ∷ []; builds = false; depends = false }

-- the outcome of an instruction that is a put comes in at its location, in place of the one before
abbrev pub put_on : Outcomes → Instruction → Outcomes
put_on os i = option_map_or (λ v. finite.insert os i.at (put_outcome v)) (regular_value i.action) os

-- those of the puts of a move come in, one after the other
abbrev pub puts_on : Outcomes → Move → Outcomes
puts_on os [] = os
puts_on os (i ∷ M) = puts_on (put_on os i) M

-- what an instruction comes to at a location, if it is a put there
abbrev pub held_by : Instruction → Place → Option Outcome
held_by i l = if eq_by_cmp location_cmp i.at l then option_map put_outcome (regular_value i.action) else None

-- whether no instruction is at the location of an earlier one
abbrev pub are_apart : Move → Bool
are_apart [] = true
are_apart (i ∷ M) = not (writes M i.at) && are_apart M

-- the move has puts at different locations, at least one, and nothing else
abbrev pub ArePuts : Move → Type 0
ArePuts M = (M ≢ []) × (all_regular M ≡ true) × (are_apart M ≡ true)

-- what a layer has: what the puts come to that it holds, or without them these outcomes
abbrev pub own_of : Move → Outcomes → Outcomes
own_of [] each = each
own_of (i ∷ M) each = puts_on finite.empty (i ∷ M)

-- what a partial update comes to, alone and where it leaves this value
abbrev pub change_alone : Instruction → Value → Outcomes
change_alone i v =
    finite.insert finite.empty i.at (record { value = v; actions = i.action ∷ []; builds = true; depends = false })

-- one more action at a location, if that has an outcome
abbrev pub with_action : Place → Action → Outcomes → Outcomes
with_action l x os =
    option_map_or (λ o. finite.insert os l (record o { actions = o.actions ++ x ∷ [] })) (finite.get os l) os

-- a regular update of the next move at a location, if that has an outcome: nothing is built there by this move
abbrev pub with_put : Place → Outcomes → Outcomes
with_put l os = option_map_or (λ o. finite.insert os l (record o { builds = o.depends })) (finite.get os l) os

-- writes at these locations in turn lead from the old outcomes to the new, and each is listed with what it replaced
abbrev pub AreReplaced : List (Place × Option Outcome) → Outcomes → Outcomes → Type 0
AreReplaced [] old new = old ≡ new
AreReplaced ((l, found) ∷ rest) old new =
    (found ≡ finite.get old l) × (w : Outcome) × AreReplaced rest (finite.insert old l w) new

-- whether the moves build at a location on the value below
abbrev pub builds_at : Outcomes → Place → Bool
builds_at os l = option_map_or (λ o. o.builds) (finite.get os l) false

-- whether what they leave there is made from it: they build on it, or none writes there
abbrev pub sees_at : Outcomes → Place → Bool
sees_at os l = option_map_or (λ o. o.builds) (finite.get os l) true

-- whether they depend on it there
abbrev pub depends_at : Outcomes → Place → Bool
depends_at os l = option_map_or (λ o. o.depends) (finite.get os l) false
