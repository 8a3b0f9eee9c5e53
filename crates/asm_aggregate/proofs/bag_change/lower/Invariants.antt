use Rattle.std.proofs.Common.{take}
use Rattle.asm_aggregate.specs.Steps.{IsMoved, lowered, names_in}
use Rattle.asm_aggregate.proofs.bag_change.lower.Given as goal

-- what the actions so far name is lowered
abbrev pub invariant-loop-action : goal.invariant-loop-action
invariant-loop-action l = IsMoved lowered (names_in (take l.action-index l.actions)) l.initial.elements l.to l.elements
