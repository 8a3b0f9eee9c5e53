use Rattle.std.proofs.Common.{◌≡◌, ◌++◌}
use Rattle.asm_aggregate.proofs.composition.limited.Given as goal

-- the instructions so far, then what is left
abbrev pub invariant-loop-instruction : goal.invariant-loop-instruction
invariant-loop-instruction l = l.instructions ++ l.instruction-iterator.rest.items ≡ l.fn.list.items
