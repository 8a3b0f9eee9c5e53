use Rattle.std.proofs.Common.{◌≡◌}
use Rattle.std.specs.Prelude.{take}
use Rattle.asm_update.specs.Fire.{state_of}
use Rattle.asm_storage.specs.History.{fired_moves}
use Rattle.asm_journal.proofs.replaying.replay_closing.Given as goal

-- the moves so far are fired
abbrev pub invariant-loop-number : goal.invariant-loop-number
invariant-loop-number g l = l.state ≡ state_of (g.A.Aggregator.meaning l.aggregator).part l.closing.init (fired_moves (take l.number l.closing.events))
