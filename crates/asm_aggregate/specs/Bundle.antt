-- A move sorted by location and kind, and what its aggregation answers.
use Rattle.std.specs.Prelude.{◌≡◌, ◌++◌, unwrap_or, Bool, List, [], Err, IsSome}
use Rattle.std.specs.Prelude.{Option, Some, None, Result, Ok, if◌then◌else◌, filter, map, refl}
use Rattle.std.specs.Borrow.{Bor}
use Rattle.std.specs.Coded.{Coded, code_by, coded×, coded_bool, coded_option, coded_list}
use Rattle.std.specs.List.{filter_map}
use Rattle.std.specs.Ordering.{eq_by_cmp}
use Rattle.std.specs.FinMap as finite
use Rattle.asm_element.specs.Place.{Place, location_cmp}
use Rattle.asm_element.specs.declared.value.Value.{Value}
use Rattle.asm_update.specs.Action.{is_partial, regular_value}
use Rattle.asm_update.specs.Fire.{Part, GroupResult, Old, first, group_result, IsUpdateSet, IsLeastClash}
use Rattle.asm_update.specs.Move.{Move, actions_at, are_different, writes}
use Rattle.asm_update.specs.State.{Updates}
use Rattle.asm_update.specs.declared.action.Action.{Action}
use Rattle.asm_update.specs.declared.clash.Cause.TheVariants.{Two}
use Rattle.asm_update.specs.declared.clash.AggError.{AggError}
use Rattle.asm_update.specs.declared.clash.AggError.TheVariants.{Clash as Clashes, Memory}

-- the first regular value, whether another one differs from it, and the partial updates
pub record Bundle : Type 0 where
  pub regular : Option Value
  pub differ : Bool
  pub partials : List Action

-- it is stored as its parts
abbrev pub bundle_code : Coded Value → Coded Action → Coded Bundle
bundle_code v a =
    code_by (Option Value × (Bool × List Action)) (coded× (coded_option v) (coded× coded_bool (coded_list a)))
    (λ b. (b.regular, (b.differ, b.partials)))
    (λ p. record { regular = p.0; differ = p.1.0; partials = p.1.1 })
    (λ _. refl)

-- the bundle of a list of actions
abbrev pub bundle_of : List Action → Bundle
bundle_of G = record {
  regular = first (filter_map regular_value G);
  differ = are_different (filter_map regular_value G);
  partials = filter is_partial G;
}

-- the bundle at a location that the move writes; none elsewhere
abbrev pub bundle_at : Move → Place → Option Bundle
bundle_at M l = if writes M l then Some (bundle_of (actions_at M l)) else None

-- what the bundle gives on the old value: its regular values differ, or it is the group's result
abbrev pub bundle_result : Part → Value → Bundle → GroupResult
bundle_result part old b = if b.differ then Err Two else group_result part old b.regular b.partials

-- there is something in the bundle
abbrev pub IsWritten : Bundle → Type 0
IsWritten b = b.partials ≡ [] → IsSome b.regular

-- the map has the bundle of each location that the move writes, and no other location
abbrev pub AreGroups : Move → finite.FinMap location_cmp Bundle → Type 0
AreGroups M groups = (l : Place) → finite.get groups l ≡ bundle_at M l

-- what a location has once there is room at one of them
abbrev pub with_room : Place → Place → Option Bundle → Option Bundle
with_room k l b = if eq_by_cmp location_cmp l k then Some (unwrap_or b (bundle_of [])) else b

-- the map has the bundle of the first move at each location that one of the two writes, and no other location
abbrev pub HaveRoom : Move → Move → finite.FinMap location_cmp Bundle → Type 0
HaveRoom M N groups =
    (l : Place) → finite.get groups l ≡ (if writes (M ++ N) l then Some (bundle_of (actions_at M l)) else None)

-- the entries of a map whose keys are references to locations
abbrev pub by_place : {X : Type 0} → List (Bor Place × X) → List (Place × X)
by_place es = map (λ e. (e.0.now, e.1)) es

-- the update set of the move, or its clash at the smallest location that has no result; an allocation failure says
-- nothing
abbrev pub IsAggregate : Part → Old → Move → Result Updates AggError → Type 0
IsAggregate part old M (Ok U) = IsUpdateSet part old M U
IsAggregate part old M (Err (Clashes clash)) = IsLeastClash part old M clash
IsAggregate part old M (Err Memory) = Unit {0}

-- whether the move has an update set, or its clash at the smallest location that has no result; a refusal of memory
-- says nothing
abbrev pub IsAdmission : Part → Old → Move → Result (Unit {0}) AggError → Type 0
IsAdmission part old M (Ok _) = (U : Updates) × IsUpdateSet part old M U
IsAdmission part old M (Err (Clashes clash)) = IsLeastClash part old M clash
IsAdmission part old M (Err Memory) = Unit {0}
