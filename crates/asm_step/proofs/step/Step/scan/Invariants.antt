use Rattle.std.proofs.Common.{◌≡◌, take}
use Rattle.asm_element.specs.Place.{Place}
use Rattle.asm_update.specs.State.{val}
use Rattle.asm_step.specs.Layers.{frames_of, layers_on, scanned}
use Rattle.std.specs.FinMap as finite
use Rattle.asm_step.proofs.step.Step.scan.Given as goal

-- the layers so far came in
abbrev pub invariant-loop-layer : goal.invariant-loop-layer
invariant-loop-layer l = (q : Place) → val l.plain q
    ≡ scanned (frames_of (layers_on finite.empty (take l.layer-index l.layer-items))) (val l.fn.below) l.name q
