use Rattle.std.proofs.Common.{arith}
use Rattle.asm_slots.proofs.LineRooms.{more}
use Rattle.asm_slots.proofs.long_lines.fire_room.Goals as goal

pub returns : goal.returns
returns c = more c.items_room-2.result _ _ _ _ c.items_room-2.ensures (omega (arith, c.in_ok-left.ensures))
