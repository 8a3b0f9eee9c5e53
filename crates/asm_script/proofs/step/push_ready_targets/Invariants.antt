use Rattle.std.proofs.Common.{◌≡◌, ◌++◌, map, take}
use Rattle.asm_script.specs.Ready.{written}
use Rattle.asm_script.specs.StepReads.{changed}
use Rattle.asm_script.proofs.step.push_ready_targets.Given as goal

-- what the instructions so far have was appended
abbrev pub invariant-loop-instruction : goal.invariant-loop-instruction
invariant-loop-instruction l = l.places.items ≡ l.initial.places.items ++ changed
    (map written (take l.instruction-index l.instructions))
