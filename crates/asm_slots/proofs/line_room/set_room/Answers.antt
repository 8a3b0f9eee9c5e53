use Rattle.std.proofs.Common.{arith, codes, map}
use Rattle.asm_element.specs.Set as set
use Rattle.asm_journal.specs.Element.{element_json_of}
use Rattle.asm_slots.proofs.LineRooms.{more, one_short}
use Rattle.asm_slots.proofs.line_room.set_room.Goals as goal

pub returns : goal.returns
returns c =
    more c.elements_room.result _ _ _ _ c.elements_room.ensures
    (omega (arith, one_short (codes "set") (map element_json_of (set.elements c.args.all.now)), c.in_ok-less.ensures))
