-- A state whose value at one location a group of partial updates changed.
use Rattle.std.specs.Prelude.{◌≡◌, Ok}
use Rattle.asm_element.specs.Place.{Place}
use Rattle.asm_element.specs.declared.value.Value.{Value}
use Rattle.asm_update.specs.Fire.{Part}
use Rattle.asm_update.specs.Group.{Parts}
use Rattle.asm_update.specs.State.{State, val, write}

-- the new state has at the location what the group gives on the old one, and is else unchanged
abbrev pub IsChangedAt : Part → State → Place → Parts → State → Type 0
IsChangedAt part old l group new =
    (v : Value) × (part (val old l) group.regular group.partials ≡ Ok v) × (new ≡ write old l v)
