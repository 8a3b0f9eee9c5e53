-- An entry that a group changed, and moves that change one location alone.
use Rattle.std.specs.Prelude.{◌≡◌, ◌≢◌, ◌&&◌, ℕ, Bool, true, false, [], map, None, Ok}
use Rattle.std.specs.List.{list_all}
use Rattle.std.specs.Ordering.{eq_by_cmp}
use Rattle.asm_element.specs.Place.{Place, location_cmp}
use Rattle.asm_element.specs.declared.value.Value.{Value}
use Rattle.asm_update.specs.Action.{is_partial}
use Rattle.asm_update.specs.Fire.{Part}
use Rattle.asm_update.specs.Group.{Parts}
use Rattle.asm_update.specs.Move.{Move}
use Rattle.asm_state.specs.declared.entries.WrittenValue.{WrittenValue}
use Rattle.asm_state.specs.Follow.{written_by}

-- the entry has what the group gives on the value, written by the move with this number
abbrev pub IsChanged : Part → Value → Parts → ℕ → WrittenValue → Type 0
IsChanged part old group n new =
    (v : Value) × (part old group.regular group.partials ≡ Ok v) × (new ≡ written_by n v)

-- whether the instructions are partial updates of this location
abbrev pub changes_only : Place → Move → Bool
changes_only l M = list_all (λ i. is_partial i.action && eq_by_cmp location_cmp i.at l) M

-- there is no instruction, or no location at which all of them are partial updates
abbrev pub IsNotOneChange : Move → Type 0
IsNotOneChange M = (l : Place) → M ≢ [] → changes_only l M ≡ false

-- the instructions are partial updates of this location, at least one, and the group has them in their order
abbrev pub IsOneChange : Move → Place → Parts → Type 0
IsOneChange M l group =
    (M ≢ []) × (changes_only l M ≡ true) × (group ≡ record { regular = None; partials = map (λ i. i.action) M })
