use denote.Param.Send.{sendable}
use Rattle.std.proofs.Crossing.{send}
use Rattle.asm_storage.proofs.Standard.{borrowed_storage, borrowed_moves, standard_agent_is_sent}
use Rattle.asm_storage_tests.proofs.storage.fires_on_threads.both_fire.Goals as goal

pub join-a-requires-send-F : goal.join-a-requires-send-F
join-a-requires-send-F g c κs within = search (sendable, send, borrowed_storage, borrowed_moves) depth 30

pub join-a-requires-send-A : goal.join-a-requires-send-A
join-a-requires-send-A g c κs within = search (sendable, standard_agent_is_sent) depth 20
