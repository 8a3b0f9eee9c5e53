use Rattle.asm_journal.proofs.Legal.{IsCheckedTo}
use Rattle.asm_journal.proofs.checking.check.Given as goal

-- the events so far are legal, and the state stands for their moves
abbrev pub invariant-loop-index : goal.invariant-loop-index
invariant-loop-index g l =
    IsCheckedTo (g.A.Aggregator.meaning l.aggregator).part l.history.init l.history.capacity l.events l.state l.index
