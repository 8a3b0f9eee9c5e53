use Rattle.std.proofs.Common.{◌≡◌, take}
use Rattle.std.specs.FinMap as finite
use Rattle.asm_step.proofs.Prefixes.{all_laid}
use Rattle.asm_step.proofs.step.Step.gathered.Given as goal

-- the layers so far are laid on each other
abbrev pub invariant-loop-layer : goal.invariant-loop-layer
invariant-loop-layer l = l.all ≡ all_laid finite.empty (take l.layer-index l.layer-items)
