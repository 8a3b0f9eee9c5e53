use Rattle.asm_play.specs.Trying.{Tried}
use Rattle.asm_play.proofs.player.Player.play_step.Given as goal

-- each try so far ended in nothing
abbrev pub invariant-loop-tried : goal.invariant-loop-tried
invariant-loop-tried g l = Tried g.A.Aggregator.meaning (g.A.Aggregator.meaning l.self.aggregator.now) l.step l.places
    l.tried l.initial.agent l.agent
