use Rattle.asm_state.proofs.WrittenAbove.{IsLeft}
use Rattle.asm_state.proofs.entries.Entries.least_from.Given as goal

abbrev pub invariant-loop-at : goal.invariant-loop-at
invariant-loop-at l = IsLeft l.first l.number l.self l.at-iterator
