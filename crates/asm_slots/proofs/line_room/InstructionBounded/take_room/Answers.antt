use Rattle.std.proofs.Common.{arith}
use Rattle.asm_slots.proofs.LineRooms.{instruction_short, more}
use Rattle.asm_slots.proofs.line_room.InstructionBounded.take_room.Goals as goal

pub returns : goal.returns
returns c =
    more c.operands_room.result _ _ _ _ c.operands_room.ensures
    (omega (arith, instruction_short c.args.self.now, c.in_ok-less.ensures, c.in_ok-left.ensures))
