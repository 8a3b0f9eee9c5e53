use Rattle.asm_state.proofs.Counted.{IsPassing}
use Rattle.asm_state.proofs.entries.Entries.show_one.Given as goal

abbrev pub invariant-loop-at : goal.invariant-loop-at
invariant-loop-at g l = IsPassing l.first (g.L.Lookup.value_at l.shown) l.self l.at-iterator
