use Rattle.asm_aggregate.proofs.CountSteps.{Counted}
use Rattle.asm_aggregate.proofs.count_agg.total_of.Given as goal

-- the sum of the increments so far
abbrev pub invariant-loop-action : goal.invariant-loop-action
invariant-loop-action l = Counted l.actions l.action-index l.sum
