-- The owners of a move's instructions.
use Rattle.std.specs.Prelude.{List, [], ◌∷◌}
use Rattle.std.specs.Arc.{arc_value}
use Rattle.asm_update.specs.declared.action.Instruction.{Instruction}
use Rattle.asm_update.specs.declared.instructions.Held.{Held}
use Rattle.asm_update.specs.declared.instructions.Held.TheVariants.{Nothing, One, Many}

-- the instructions that are held, with any owner
abbrev pub held_items : Held → List Instruction
held_items Nothing = []
held_items (One instruction) = arc_value instruction ∷ []
held_items (Many list) = (arc_value list).items
