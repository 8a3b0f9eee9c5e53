use Rattle.std.proofs.Common.{length}
use Rattle.asm_aggregate.specs.Stretch.{left_in}
use Rattle.asm_aggregate.proofs.Walked.{IsWalked}
use Rattle.asm_aggregate.proofs.aggregation.results.Given as goal

-- the locations that aren't left have their results
abbrev pub invariant-loop-stretch : goal.invariant-loop-stretch
invariant-loop-stretch g l =
    IsWalked (g.A.Aggregator.meaning l.aggregator).part (g.L.Lookup.value_at l.lookup) l.instructions
    (left_in l.stretches.list.now l.stretches.done) l.results

abbrev pub decreases-loop-stretch : goal.decreases-loop-stretch
decreases-loop-stretch g l = length (left_in l.stretches.list.now l.stretches.done)
