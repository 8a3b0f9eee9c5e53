use Rattle.std.proofs.Common.{take}
use Rattle.asm_aggregate.specs.Bundle.{AreGroups}
use Rattle.asm_aggregate.proofs.groups.Groups.of.Given as goal

-- the instructions so far are gathered
abbrev pub invariant-loop-i : goal.invariant-loop-i
invariant-loop-i l = AreGroups (take l.i l.instructions) l.groups
