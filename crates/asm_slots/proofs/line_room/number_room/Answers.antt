use Rattle.std.proofs.Common.{arith}
use Rattle.asm_journal.specs.Shape.{number_json_of}
use Rattle.asm_slots.specs.LongLines.{spelled}
use Rattle.asm_slots.proofs.LineRooms.{number_short, within}
use Rattle.asm_slots.proofs.line_room.number_room.Goals as goal

pub returns : goal.returns
returns c =
    let n = c.args._number in
    within c.less.result 10 (spelled (number_json_of n)) c.args.left c.args.left c.less.ensures
    (omega (arith, number_short n (omega (arith, c.ranges._number.fits))))
