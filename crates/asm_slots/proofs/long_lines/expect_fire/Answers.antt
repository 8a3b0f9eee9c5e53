use Rattle.asm_slots.specs.LongLines.{counted_limit, fire_size}
use Rattle.asm_slots.proofs.LineRooms.{answered}
use Rattle.asm_slots.proofs.long_lines.expect_fire.Goals as goal

pub returns : goal.returns
returns c = rw c.expect_room.ensures (answered c.fire_length.result counted_limit (fire_size c.args.reads.now c.args.instrs.now) c.fire_length.ensures)
