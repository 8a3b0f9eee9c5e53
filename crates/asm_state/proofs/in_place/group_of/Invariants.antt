use Rattle.std.proofs.Common.{◌≡◌, map, take}
use Rattle.asm_state.proofs.in_place.group_of.Given as goal

abbrev pub invariant-loop-instruction : goal.invariant-loop-instruction
invariant-loop-instruction l = l.partials.items ≡ map (λ i. i.action) (take l.instruction-index l.instructions)
