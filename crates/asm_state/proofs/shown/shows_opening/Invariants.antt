use Rattle.asm_state.proofs.Counted.{IsPassing}
use Rattle.asm_state.proofs.shown.shows_opening.Given as goal

abbrev pub invariant-loop-at : goal.invariant-loop-at
invariant-loop-at g l = IsPassing l.first (g.L.Lookup.value_at l.shown) l.opening l.at-iterator
