use Rattle.std.proofs.Common.{vec_len}
use Rattle.asm_step.specs.Outcomes.{Outcomes, AreReplaced}
use Rattle.asm_step.proofs.outcomes.Outcomes.take_all_back.Given as goal

abbrev pub decreases-loop-at : goal.decreases-loop-at
decreases-loop-at l = vec_len l.replaced

-- from the same old entries, the notes that are left lead to the entries as they are now
abbrev pub invariant-loop-at : goal.invariant-loop-at
invariant-loop-at l = (old : Outcomes) → AreReplaced l.fn.replaced.items old l.fn.self → AreReplaced l.replaced.items old l.self
