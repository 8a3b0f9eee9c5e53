use Rattle.std.proofs.Common.{take}
use Rattle.asm_aggregate.specs.BagMeaning.{element_of}
use Rattle.asm_aggregate.proofs.SetSteps.{HasGathered}
use Rattle.asm_aggregate.proofs.bag_agg.note_elements.Given as goal

-- the set has what the actions so far name
abbrev pub invariant-loop-action : goal.invariant-loop-action
invariant-loop-action l = HasGathered element_of l.initial.elements (take l.action-index l.actions) l.elements
