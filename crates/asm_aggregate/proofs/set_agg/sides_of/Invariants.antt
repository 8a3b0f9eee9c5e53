use Rattle.std.proofs.Common.{take}
use Rattle.asm_element.specs.Set.{empty}
use Rattle.asm_aggregate.specs.SetMeaning.{element_on}
use Rattle.asm_aggregate.specs.declared.side.Side.TheVariants.{Added, Removed}
use Rattle.asm_aggregate.proofs.SetSteps.{HasGathered}
use Rattle.asm_aggregate.proofs.set_agg.sides_of.Given as goal

-- the sets have what the actions so far add and remove
abbrev pub invariant-loop-action : goal.invariant-loop-action
invariant-loop-action l = record {
  adds : HasGathered (element_on Added) empty (take l.action-index l.actions) l.added;
  removes : HasGathered (element_on Removed) empty (take l.action-index l.actions) l.removed;
}
