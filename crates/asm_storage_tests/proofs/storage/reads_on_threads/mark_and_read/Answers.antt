use denote.Param.Send.{sendable}
use Rattle.std.proofs.Crossing.{send, Vec-send}
use Rattle.asm_storage.proofs.Crossing.{mark_is_sent}
use Rattle.asm_storage.proofs.Standard.{borrowed_storage, borrowed_moves, standard_agent_is_sent}
use Rattle.asm_storage_tests.proofs.storage.reads_on_threads.mark_and_read.Goals as goal

pub join-written-requires-send-F : goal.join-written-requires-send-F
join-written-requires-send-F g c κs within = search (sendable, send, borrowed_storage, borrowed_moves) depth 30

pub join-written-requires-send-A : goal.join-written-requires-send-A
join-written-requires-send-A g c κs within = search (sendable, Vec-send, standard_agent_is_sent, mark_is_sent) depth 20
