use Rattle.std.proofs.Common.{take}
use Rattle.asm_step.specs.Next.{AreMarked}
use Rattle.asm_step.proofs.next.mark_each.Given as goal

-- the partial updates of the instructions so far are noted
abbrev pub invariant-loop-instruction : goal.invariant-loop-instruction
invariant-loop-instruction l = AreMarked (take l.instruction-index l.instructions) l.fn.outcomes l.outcomes
