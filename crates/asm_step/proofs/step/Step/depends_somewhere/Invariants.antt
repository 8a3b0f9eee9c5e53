use Rattle.std.proofs.Common.{◌≡◌, [], take}
use Rattle.std.specs.FinMap as finite
use Rattle.asm_step.specs.Outcomes.{dependencies_in}
use Rattle.asm_step.proofs.Prefixes.{all_laid}
use Rattle.asm_step.proofs.step.Step.depends_somewhere.Given as goal

-- the layers so far rest nowhere
abbrev pub invariant-loop-layer : goal.invariant-loop-layer
invariant-loop-layer l = dependencies_in (all_laid finite.empty (take l.layer-index l.layer-items)) ≡ []
