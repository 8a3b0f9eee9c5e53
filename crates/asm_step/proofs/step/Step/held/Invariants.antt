use Rattle.std.proofs.Common.{◌≡◌}
use Rattle.std.specs.FinMap as finite
use Rattle.asm_step.specs.Layers.{layers_on, outcomes_of}
use Rattle.asm_step.proofs.step.Step.held.Given as goal

-- the layers that are left have what all of them have
abbrev pub invariant-loop-layer : goal.invariant-loop-layer
invariant-loop-layer l =
    finite.get (outcomes_of (layers_on finite.empty l.layer-iterator.iter.rest.now)) l.at
    ≡ finite.get (outcomes_of l.self) l.at
