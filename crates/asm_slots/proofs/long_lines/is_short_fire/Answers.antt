use Rattle.std.proofs.Common.{sym, ◌∙◌, arith}
use Rattle.asm_slots.proofs.LineRooms.{fire_short, room_found}
use Rattle.asm_slots.proofs.long_lines.is_short_fire.Goals as goal

pub returns : goal.returns
returns c short =
    fire_short c.args.reads.now c.args.instrs.now 536870852 0 (omega arith)
    (omega (arith, room_found c.fire_room.result _ _ (sym c.is_some.ensures ∙ short) c.fire_room.ensures))
