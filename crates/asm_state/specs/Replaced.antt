-- Writes that can be undone.
use Rattle.std.specs.Prelude.{◌≡◌, List, [], ◌∷◌, Option}
use Rattle.std.specs.FinMap as map
use Rattle.asm_element.specs.Place.{Place}
use Rattle.asm_state.specs.declared.entries.WrittenValue.{WrittenValue}
use Rattle.asm_state.specs.View.{Entries}

-- writes at these locations in turn lead from the old entries to the new, and each is listed with what it replaced
abbrev pub AreReplaced : List (Place × Option WrittenValue) → Entries → Entries → Type 0
AreReplaced [] old new = old ≡ new
AreReplaced ((l, found) ∷ rest) old new =
    (found ≡ map.get old l) × (w : WrittenValue) × AreReplaced rest (map.insert old l w) new
