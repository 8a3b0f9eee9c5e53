-- The locations of partial updates.
use Rattle.std.specs.Prelude.{◌↔◌, if◌then◌else◌, List, [], ◌∷◌, Contains}
use Rattle.std.specs.List.{flat_map}
use Rattle.std.specs.List.Sorted.{IsStrictlySortedBy}
use Rattle.asm_element.specs.Place.{Place, location_cmp}
use Rattle.asm_update.specs.Action.{is_partial}
use Rattle.asm_update.specs.Move.{Move}
use Rattle.asm_update.specs.declared.action.Instruction.{Instruction}

-- the location of a partial update; a regular one has none
abbrev pub partial_place : Instruction → List Place
partial_place i = if is_partial i.action then i.at ∷ [] else []

-- the locations of a move's partial updates
abbrev pub partial_places : Move → List Place
partial_places M = flat_map partial_place M

-- those of all the moves
abbrev pub all_partial_places : List Move → List Place
all_partial_places Ms = flat_map partial_places Ms

-- the second list has each location of the first once, and no other, in ascending order
pub record AreEach (all ls : List Place) : Type 0 where
  pub ascending : IsStrictlySortedBy location_cmp ls
  pub same : (l : Place) → Contains ls l ↔ Contains all l
