use Rattle.std.proofs.Common.{All, take}
use Rattle.asm_update.specs.Action.{IsProperInstruction}
use Rattle.asm_step.proofs.popped.Popped.proper.Given as goal

-- those so far are well-formed
abbrev pub invariant-loop-next : goal.invariant-loop-next
invariant-loop-next l = All (All IsProperInstruction) (take l.next-index l.more)
