use Rattle.std.proofs.Common.{take}
use Rattle.asm_aggregate.specs.declared.side.Side.TheVariants.{Removed}
use Rattle.asm_aggregate.proofs.BagSteps.{IsChanged}
use Rattle.asm_aggregate.proofs.bag_agg.without.Given as goal

-- what the actions so far remove is taken out
abbrev pub invariant-loop-action : goal.invariant-loop-action
invariant-loop-action l = IsChanged Removed l.bag (take l.action-index l.actions) l.initial.bag
