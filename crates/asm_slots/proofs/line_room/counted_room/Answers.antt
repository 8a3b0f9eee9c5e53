use Rattle.std.proofs.Common.{arith}
use Rattle.asm_slots.proofs.LineRooms.{more}
use Rattle.asm_slots.proofs.line_room.counted_room.Goals as goal

pub returns : goal.returns
returns c = more c.number_room.result _ _ _ _ c.number_room.ensures (omega (arith, c.in_ok-left.ensures))
