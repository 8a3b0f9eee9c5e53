use denote.Param.Send.{sendable}
use Rattle.asm_play.proofs.Crossing.{standard_agent_is_sent, played_agent_is_sent}
use Rattle.asm_play.proofs.play.play_agents.Goals as goal

pub each-requires-send-J : goal.each-requires-send-J
each-requires-send-J g c κs within = search (sendable, standard_agent_is_sent) depth 20

pub each-requires-send-X : goal.each-requires-send-X
each-requires-send-X g c κs within = search (sendable, played_agent_is_sent) depth 20
