use Rattle.std.proofs.Common.{arith}
use Rattle.asm_slots.proofs.LineRooms.{number_short}
use Rattle.asm_slots.proofs.short_lines.short_number.Goals as goal

pub returns : goal.returns
returns c = number_short c.args._number (omega (arith, c.ranges._number.fits))
