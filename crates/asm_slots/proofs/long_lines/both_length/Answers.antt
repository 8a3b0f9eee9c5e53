use Rattle.std.proofs.Common.{refl}
use Rattle.asm_slots.proofs.LineRooms.{left_both, left_first}
use Rattle.asm_slots.proofs.long_lines.both_length.Goals as goal

pub returns-in-None : goal.returns-in-None
returns-in-None c = left_first _ _ _ _ _ c.in-None.is c.in_ok-rest.ensures refl

pub returns-in-Some : goal.returns-in-Some
returns-in-Some c = left_both c.items_length-in-Some.result _ _ _ _ _ _ c.in-Some.is c.in_ok-rest.ensures c.items_length-in-Some.ensures refl
