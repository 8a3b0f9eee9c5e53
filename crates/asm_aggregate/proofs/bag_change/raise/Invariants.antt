use Rattle.std.proofs.Common.{take}
use Rattle.asm_aggregate.specs.Steps.{IsMoved, raised, names_in}
use Rattle.asm_aggregate.proofs.bag_change.raise.Given as goal

-- what the actions so far name is raised
abbrev pub invariant-loop-action : goal.invariant-loop-action
invariant-loop-action l = IsMoved raised (names_in (take l.action-index l.actions)) l.initial.elements l.to l.elements
