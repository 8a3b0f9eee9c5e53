use Rattle.std.proofs.Common.{length}
use Rattle.asm_update.specs.State.{Updates}
use Rattle.asm_aggregate.specs.Stretch.{left_in}
use Rattle.asm_aggregate.proofs.Walked.{IsWalked}
use Rattle.asm_aggregate.proofs.admission.admit.Given as goal

-- there are results for the locations that aren't left
abbrev pub invariant-loop-stretch : goal.invariant-loop-stretch
invariant-loop-stretch g l =
    (U : Updates) × IsWalked (g.A.Aggregator.meaning l.aggregator).part (g.L.Lookup.value_at l.lookup) l.instructions
    (left_in l.stretches.list.now l.stretches.done) U

abbrev pub decreases-loop-stretch : goal.decreases-loop-stretch
decreases-loop-stretch g l = length (left_in l.stretches.list.now l.stretches.done)
