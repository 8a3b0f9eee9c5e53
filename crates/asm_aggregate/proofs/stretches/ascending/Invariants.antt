use Rattle.std.proofs.Common.{◌≡◌, take}
use Rattle.asm_aggregate.specs.Stretch.{referred}
use Rattle.asm_aggregate.proofs.stretches.ascending.Given as goal

-- the instructions so far are referred to
abbrev pub invariant-loop-instruction : goal.invariant-loop-instruction
invariant-loop-instruction l = referred l.list.items ≡ take l.instruction-index l.instruction-items
