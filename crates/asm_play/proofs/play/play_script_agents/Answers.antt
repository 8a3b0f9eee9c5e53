use denote.Param.Send.{sendable}
use Rattle.asm_play.proofs.Crossing.{steps_sync}
use Rattle.asm_play.proofs.play.play_script_agents.Goals as goal

pub play_agents-requires-sync-S : goal.play_agents-requires-sync-S
play_agents-requires-sync-S g c κs within = search (sendable, steps_sync) depth 20
