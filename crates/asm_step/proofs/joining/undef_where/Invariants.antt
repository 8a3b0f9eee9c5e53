use Rattle.std.proofs.Common.{take}
use Rattle.asm_step.specs.Next.{AreWhere}
use Rattle.asm_step.proofs.joining.undef_where.Given as goal

-- undef is at each location that the instructions so far write
abbrev pub invariant-loop-instruction : goal.invariant-loop-instruction
invariant-loop-instruction l = AreWhere (take l.instruction-index l.instructions) l.values
