use Rattle.std.proofs.Common.{take}
use Rattle.asm_play.specs.AgentPlay.{Plays}
use Rattle.asm_play.proofs.player.Player.play.Given as goal

-- the steps so far were played
abbrev pub invariant-loop-step : goal.invariant-loop-step
invariant-loop-step g l =
    Plays g.A.Aggregator.meaning (g.A.Aggregator.meaning l.self.aggregator.now) l.fn.agent l.agent
    (take l.step-index l.steps) l.ends.items
