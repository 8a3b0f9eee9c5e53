use Rattle.std.proofs.Common.{take}
use Rattle.asm_aggregate.specs.declared.side.Side.TheVariants.{Added}
use Rattle.asm_aggregate.proofs.BagSteps.{IsChanged}
use Rattle.asm_aggregate.proofs.bag_agg.with.Given as goal

-- what the actions so far add is put in
abbrev pub invariant-loop-action : goal.invariant-loop-action
invariant-loop-action l = IsChanged Added l.initial.bag (take l.action-index l.actions) l.bag
