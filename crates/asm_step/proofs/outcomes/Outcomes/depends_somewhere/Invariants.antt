use Rattle.std.proofs.Common.{◌≡◌}
use Rattle.asm_step.specs.Outcomes.{dependencies_in}
use Rattle.asm_step.proofs.Stacked.{dependencies_from}
use Rattle.asm_step.proofs.outcomes.Outcomes.depends_somewhere.Given as goal

-- those that are left rest where all do
abbrev pub invariant-loop-outcome : goal.invariant-loop-outcome
invariant-loop-outcome l = dependencies_in l.self ≡ dependencies_from l.outcome-iterator
