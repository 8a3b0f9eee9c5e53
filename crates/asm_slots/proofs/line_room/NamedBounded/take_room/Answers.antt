use Rattle.std.proofs.Common.{arith}
use Rattle.asm_journal.specs.Element.{location_json_of}
use Rattle.asm_journal.specs.Shape.{number_json_of}
use Rattle.asm_slots.proofs.LineRooms.{more, pair_is}
use Rattle.asm_slots.proofs.line_room.NamedBounded.take_room.Goals as goal

pub returns : goal.returns
returns c =
    let r = c.args.self.now in
    more c.number_room.result _ _ _ _ c.number_room.ensures
    (omega (arith, pair_is (location_json_of r.at) (number_json_of r.number), c.in_ok-less.ensures, c.in_ok-left.ensures))
