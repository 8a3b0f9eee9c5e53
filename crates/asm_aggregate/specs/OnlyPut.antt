-- Moves of one regular update.
use Rattle.std.specs.Prelude.{Option, None, [], ◌∷◌}
use Rattle.std.specs.Option.{option_map}
use Rattle.asm_element.specs.Place.{Place}
use Rattle.asm_element.specs.declared.value.Value.{Value}
use Rattle.asm_update.specs.Action.{regular_value}
use Rattle.asm_update.specs.Move.{Move}
use Rattle.asm_update.specs.declared.action.Instruction.{Instruction}

-- the location and the value of an instruction that is a regular update
abbrev pub put_of : Instruction → Option (Place × Value)
put_of i = option_map (λ v. (i.at, v)) (regular_value i.action)

-- the location and the value of a move that is one regular update
abbrev pub only_put : Move → Option (Place × Value)
only_put (i ∷ []) = put_of i
only_put _ = None
