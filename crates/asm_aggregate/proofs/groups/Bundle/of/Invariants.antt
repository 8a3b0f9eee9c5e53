use Rattle.std.proofs.Common.{◌≡◌, map, take}
use Rattle.asm_aggregate.specs.Bundle.{bundle_of}
use Rattle.asm_aggregate.specs.Stretch.{referred}
use Rattle.asm_aggregate.proofs.groups.Bundle.of.Given as goal

-- what the instructions so far do
abbrev pub invariant-loop-instruction : goal.invariant-loop-instruction
invariant-loop-instruction l =
    l.bundle ≡ bundle_of (map (λ i. i.action) (referred (take l.instruction-index l.instructions)))
