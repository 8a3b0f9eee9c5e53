use Rattle.asm_slots.proofs.LineRooms.{integer_short}
use Rattle.asm_slots.proofs.short_lines.short_integer.Goals as goal

pub returns : goal.returns
returns c = integer_short c.args._number c.ranges._number
