use Rattle.std.proofs.Common.{arith, length}
use Rattle.json.specs.Print.{quoted}
use Rattle.asm_slots.proofs.LineRooms.{quoted_short, within}
use Rattle.asm_slots.proofs.line_room.text_room.Goals as goal

pub returns : goal.returns
returns c =
    within c.less-2.result c.in_ok-most.most (length (quoted c.args.text.now)) c.in_ok-less.field-0 c.args.left c.less-2.ensures
    (omega (arith, quoted_short c.args.text.now, c.in_ok-less.ensures, c.in_ok-most.ensures))
