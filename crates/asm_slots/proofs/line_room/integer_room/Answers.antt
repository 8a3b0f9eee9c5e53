use Rattle.std.proofs.Common.{arith}
use Rattle.asm_journal.specs.Element.{integer_json_of}
use Rattle.asm_slots.specs.LongLines.{spelled}
use Rattle.asm_slots.proofs.LineRooms.{integer_short, within}
use Rattle.asm_slots.proofs.line_room.integer_room.Goals as goal

pub returns : goal.returns
returns c =
    let z = c.args._number in
    within c.less.result 20 (spelled (integer_json_of z)) c.args.left c.args.left c.less.ensures (omega (arith, integer_short z c.ranges._number))
