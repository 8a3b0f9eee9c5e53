use Rattle.asm_play.proofs.AgentsBelow.{agents_below}
use Rattle.asm_play.proofs.play.run_script.Goals as goal

pub returns-in-Ok-clause-agents : goal.returns-in-Ok-clause-agents
returns-in-Ok-clause-agents g c = agents_below _ _ _ c.in-Ok.ensures.played.0
