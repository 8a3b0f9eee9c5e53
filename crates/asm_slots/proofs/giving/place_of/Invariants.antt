use Rattle.std.proofs.Common.{◌≢◌, All}
use Rattle.std.specs.Prelude.{take}
use Rattle.asm_slots.proofs.giving.place_of.Given as goal

abbrev pub invariant-loop-at : goal.invariant-loop-at
invariant-loop-at l = All (λ p. p.id ≢ l.number) (take l.at l.parts)
