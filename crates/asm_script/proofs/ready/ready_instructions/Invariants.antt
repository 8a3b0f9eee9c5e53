use Rattle.asm_script.proofs.ReadyInstructions.{IsMadeReady}
use Rattle.asm_script.proofs.ready.ready_instructions.Given as goal

-- the instructions so far were made, and those that are left are ready
abbrev pub invariant-loop-instruction : goal.invariant-loop-instruction
invariant-loop-instruction l =
    IsMadeReady l.fn.instructions.items l.made.items l.instruction-iterator.rest.items
