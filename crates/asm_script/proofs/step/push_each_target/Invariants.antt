use Rattle.std.proofs.Common.{◌≡◌, ◌++◌, take}
use Rattle.asm_script.specs.StepReads.{changed}
use Rattle.asm_script.proofs.step.push_each_target.Given as goal

-- what the instructions so far have was appended
abbrev pub invariant-loop-instruction : goal.invariant-loop-instruction
invariant-loop-instruction l = l.places.items ≡ l.initial.places.items ++ changed
    (take l.instruction-index l.instructions)
