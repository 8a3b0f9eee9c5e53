use Rattle.std.proofs.Common.{All, take}
use Rattle.asm_update.specs.Action.{IsProperInstruction}
use Rattle.asm_update.proofs.proper.proper_instructions.Given as goal

-- those so far are proper
abbrev pub invariant-loop-instruction : goal.invariant-loop-instruction
invariant-loop-instruction l = All IsProperInstruction (take l.instruction-index l.instructions)
