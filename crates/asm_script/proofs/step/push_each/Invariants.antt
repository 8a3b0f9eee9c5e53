use Rattle.std.proofs.Common.{◌≡◌, ◌++◌, take}
use Rattle.asm_script.specs.StepReads.{taken}
use Rattle.asm_script.proofs.step.push_each.Given as goal

-- what the instructions so far have was appended
abbrev pub invariant-loop-instruction : goal.invariant-loop-instruction
invariant-loop-instruction l = l.places.items ≡ l.initial.places.items ++ taken
    (take l.instruction-index l.instructions)
