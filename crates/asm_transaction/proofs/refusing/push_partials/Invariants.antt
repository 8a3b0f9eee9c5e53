use Rattle.std.proofs.Common.{◌≡◌, ◌++◌, take}
use Rattle.asm_step.specs.Places.{partial_places}
use Rattle.asm_transaction.proofs.refusing.push_partials.Given as goal

-- those of the instructions so far were appended
abbrev pub invariant-loop-instruction : goal.invariant-loop-instruction
invariant-loop-instruction l = l.all.items ≡ l.initial.all.items ++ partial_places (take l.instruction-index l.instruction-items)
