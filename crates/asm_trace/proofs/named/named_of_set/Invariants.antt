use Rattle.std.proofs.Common.{take}
use Rattle.asm_trace.proofs.Unchanged.{HasNamed}
use Rattle.asm_trace.proofs.named.named_of_set.Given as goal

-- the part has what the actions so far name
abbrev pub invariant-loop-action : goal.invariant-loop-action
invariant-loop-action l = HasNamed l.whole l.part (take l.action-index l.actions)
