use Rattle.std.proofs.Common.{◌≡◌}
use Rattle.std.specs.Prelude.{take}
use Rattle.asm_update.specs.Fire.{state_of}
use Rattle.asm_storage.specs.History.{fired_moves}
use Rattle.asm_journal.proofs.replaying.replay_over.Given as goal

-- the moves so far are fired
abbrev pub invariant-loop-event : goal.invariant-loop-event
invariant-loop-event g l = l.state ≡ state_of (g.A.Aggregator.meaning l.aggregator).part l.fn.init (fired_moves (take l.event-index l.events))
