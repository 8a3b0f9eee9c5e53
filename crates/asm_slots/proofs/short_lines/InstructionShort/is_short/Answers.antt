use Rattle.std.proofs.Common.{arith}
use Rattle.asm_slots.proofs.LineRooms.{instruction_short}
use Rattle.asm_slots.proofs.short_lines.InstructionShort.is_short.Goals as goal

pub returns : goal.returns
returns c = λ short.
    omega (arith, instruction_short c.args.self.now, c.are_short_operands.ensures c.if-not-are_short_operands.false, c.is_short.ensures short)
