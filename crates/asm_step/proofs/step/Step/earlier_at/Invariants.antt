use Rattle.std.proofs.Common.{◌≡◌, ◌++◌}
use Rattle.std.specs.FinMap as finite
use Rattle.asm_step.specs.Layers.{outcomes_of}
use Rattle.asm_step.proofs.Stacked.{kept_at}
use Rattle.asm_step.proofs.step.Step.earlier_at.Given as goal

-- what was appended, in front of what is left, is all
abbrev pub invariant-loop-at : goal.invariant-loop-at
invariant-loop-at l =
    l.list ++ kept_at (outcomes_of l.self) l.at-iterator ≡ kept_at (outcomes_of l.self) (finite.entries l.frame)
