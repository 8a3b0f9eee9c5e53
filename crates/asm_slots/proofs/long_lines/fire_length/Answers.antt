use Rattle.std.proofs.Common.{Some, None, refl}
use Rattle.asm_slots.proofs.LineRooms.{fire_parts, left_both, left_first}
use Rattle.asm_slots.proofs.long_lines.fire_length.Goals as goal

pub returns-in-None : goal.returns-in-None
returns-in-None c =
    left_first None c.max.result _ _ _ refl c.in-None.ensures
    (fire_parts c.max.result _ _ _ _ _ _ c.max.ensures c.in_ok-of_instrs.ensures c.in_ok-of_reads.ensures)

pub returns-in-Some : goal.returns-in-Some
returns-in-Some c =
    left_both c.both_length.result (Some c.in-Some.left) c.in-Some.left c.max.result _ _ _ refl c.in-Some.ensures c.both_length.ensures
    (fire_parts c.max.result _ _ _ _ _ _ c.max.ensures c.in_ok-of_instrs.ensures c.in_ok-of_reads.ensures)
