use Rattle.std.proofs.Common.{◌≡◌}
use Rattle.asm_journal.proofs.Moves.{written_with}
use Rattle.asm_journal.proofs.replaying.write_updates.Given as goal

-- what is left, written on the state so far, gives what all give
abbrev pub invariant-loop-at : goal.invariant-loop-at
invariant-loop-at l = written_with l.state l.at-iterator ≡ written_with l.initial.state l.initial.at-iterator
