-- The content of a slot may be sent to another thread.
use denote.Param.Send.{IsSend, IsSync, sendable}
use denote.Hole.{as_row}
use denote.Param.SendFields.{as_row_send, as_row_sync, declared_send, declared_sync}
use denote.Struct.Field.{row_field, u32-field}
use Rattle.core.proofs.atomic.Sent.{Atomic-sync}
use Rattle.core.specs.contracts.atomic.AtomicU64 as Atomic
use Rattle.std.proofs.Crossing.{Arc-send, Box-send, Vec-send}
use Rattle.asm_update.proofs.Crossing.{instructions_is_sent, state_is_sent, state_is_shared}
use Rattle.asm_row.proofs.row.Row.TheSendSync as row
use Rattle.asm_row.specs.contracts.row.Row as Row
use Rattle.asm_storage.proofs.Crossing.{part_is_sent}
use Rattle.asm_storage.proofs.Standard.{standard, standard_ghosts, standard_storage_is_shared}
use Rattle.asm_storage.specs.contracts.entry.Entry as Entry
use Rattle.asm_storage.specs.contracts.storage.Storage as Storage
use Rattle.asm_storage.specs.contracts.storage.Storage.TheInside as InsideStorage
use Rattle.asm_audit.specs.contracts.auditor.Auditor as Auditor
use Rattle.asm_audit.specs.contracts.byte_auditor.ByteAuditor as ByteAuditor
use Rattle.asm_audit.specs.contracts.part_auditor.PartAuditor as PartAuditor
use Rattle.asm_audit.specs.contracts.progress.Progress as Progress
use Rattle.asm_element.proofs.Crossing.{location_is_sent}
use Rattle.asm_state.proofs.Crossing as states
use Rattle.asm_transaction.proofs.Crossing.{transaction_is_sent}
use Rattle.asm_run.specs.contracts.end.RunEnd as RunEnd
use Rattle.asm_run.specs.contracts.judge.Judge as Judge
use Rattle.asm_run.specs.contracts.name.SegmentName as SegmentName
use Rattle.asm_run.specs.contracts.segment.SegmentReader as SegmentReader
use Rattle.asm_run.specs.contracts.trail.Place as Place
use Rattle.asm_run.specs.contracts.reader.RunReader as RunReader
use Rattle.asm_run.specs.contracts.trail.Trail as Trail
use Rattle.asm_run.specs.contracts.writer.RunWriter as RunWriter
use Rattle.asm_slots.specs.contracts.audit.Audit as Audit
use Rattle.asm_slots.specs.contracts.audit.Audit.TheInside as InsideAudit
use Rattle.asm_slots.specs.contracts.content.Content as Content
use Rattle.asm_slots.specs.contracts.closed_journal.ClosedJournal as ClosedJournal
use Rattle.asm_slots.specs.contracts.closed_journal.ClosedJournal.TheInside as InsideJournal
use Rattle.asm_slots.specs.contracts.owned_agent.OwnedAgent as OwnedAgent
use Rattle.asm_slots.specs.contracts.owned_agent.OwnedAgent.TheInside as InsideAgent
use Rattle.asm_slots.specs.contracts.run.Run as Run
use Rattle.asm_slots.specs.contracts.run.Run.TheInside as InsideRun
use Rattle.asm_slots.specs.contracts.shared.Shared as Shared
use Rattle.asm_slots.specs.contracts.store.Store as Store
use Rattle.asm_slots.specs.contracts.store.Store.TheInside as InsideStore

entry_is_sent : IsSend Entry.the_row
entry_is_sent = search (sendable, instructions_is_sent) depth 20

standard_is_sent : IsSend standard
standard_is_sent = search sendable depth 30

row_is_sent : IsSend (Row.the_row Entry.the_row)
row_is_sent = search (sendable, row.the_send, entry_is_sent) depth 20

inside_storage_is_sent : IsSend (InsideStorage.the_row standard standard_ghosts)
inside_storage_is_sent =
    declared_send (InsideStorage.the_type standard standard_ghosts) (row_is_sent, (as_row_send (row_field standard) standard_is_sent, (search (sendable, Arc-send, state_is_sent, state_is_shared) depth 20, tt)))

storage_is_sent : IsSend (Storage.the_row standard standard_ghosts)
storage_is_sent = search (sendable, inside_storage_is_sent) depth 20

shared_is_sent : IsSend Shared.the_row
shared_is_sent = search (sendable, storage_is_sent) depth 20

shared_is_shared : IsSync Shared.the_row
shared_is_shared =
    let count : IsSync Atomic.the_row = search (sendable, Atomic-sync) depth 20 in
    let capacity : IsSync (as_row u32-field) = search sendable depth 20 in
    declared_sync Shared.the_type (standard_storage_is_shared, (count, (as_row_sync (row_field (as_row u32-field)) capacity, tt)))

inside_agent_is_sent : IsSend InsideAgent.the_row
inside_agent_is_sent = declared_send InsideAgent.the_type (Arc-send Shared.the_row shared_is_sent shared_is_shared, (part_is_sent, (transaction_is_sent, tt)))

agent_is_sent : IsSend OwnedAgent.the_row
agent_is_sent = search (sendable, inside_agent_is_sent) depth 20

inside_journal_is_sent : IsSend InsideJournal.the_row
inside_journal_is_sent = search (sendable, Arc-send, Vec-send, state_is_sent, state_is_shared) depth 20

journal_is_sent : IsSend ClosedJournal.the_row
journal_is_sent = search (sendable, inside_journal_is_sent) depth 20

inside_store_is_sent : IsSend InsideStore.the_row
inside_store_is_sent = search (sendable, Arc-send, Vec-send, shared_is_sent, shared_is_shared, part_is_sent, journal_is_sent) depth 20

store_is_sent : IsSend Store.the_row
store_is_sent = search (sendable, inside_store_is_sent) depth 20

part_auditor_is_sent : IsSend PartAuditor.the_row
part_auditor_is_sent = search (sendable, states.state_is_sent) depth 20

progress_is_sent : IsSend Progress.the_row
progress_is_sent = search (sendable, part_auditor_is_sent) depth 20

auditor_is_sent : IsSend (Auditor.the_row standard)
auditor_is_sent =
    declared_send (Auditor.the_type standard)
    (as_row_send (row_field standard) standard_is_sent, (progress_is_sent, tt))

byte_auditor_is_sent : IsSend (ByteAuditor.the_row standard standard_ghosts)
byte_auditor_is_sent =
    declared_send (ByteAuditor.the_type standard standard_ghosts)
    (auditor_is_sent, (search (sendable, Vec-send) depth 20, tt))

inside_audit_is_sent : IsSend InsideAudit.the_row
inside_audit_is_sent = declared_send InsideAudit.the_type
    (Box-send (ByteAuditor.the_row standard standard_ghosts) byte_auditor_is_sent, tt)

audit_is_sent : IsSend Audit.the_row
audit_is_sent = search (sendable, inside_audit_is_sent) depth 20

judge_is_sent : IsSend (Judge.the_row standard standard_ghosts)
judge_is_sent =
    declared_send (Judge.the_type standard standard_ghosts) (byte_auditor_is_sent, (search sendable depth 20, tt))

end_is_sent : IsSend RunEnd.the_row
end_is_sent = search sendable depth 20

name_is_sent : IsSend SegmentName.the_row
name_is_sent = search sendable depth 20

place_is_sent : IsSend Place.the_row
place_is_sent = search sendable depth 20

segment_is_sent : IsSend SegmentReader.the_row
segment_is_sent =
    declared_send SegmentReader.the_type
    (name_is_sent, (end_is_sent, (search sendable depth 20, (search sendable depth 20, (search sendable depth 20, tt)))))

trail_is_sent : IsSend Trail.the_row
trail_is_sent =
    declared_send Trail.the_type
    (place_is_sent, (end_is_sent, (end_is_sent, (end_is_sent, (segment_is_sent, (search sendable depth 20, tt))))))

writer_is_sent : IsSend RunWriter.the_row
writer_is_sent = search sendable depth 20

reader_is_sent : IsSend (RunReader.the_row standard standard_ghosts)
reader_is_sent =
    declared_send (RunReader.the_type standard standard_ghosts) (judge_is_sent, (trail_is_sent, tt))

inside_run_is_sent : IsSend InsideRun.the_row
inside_run_is_sent = declared_send InsideRun.the_type
    (Box-send (RunReader.the_row standard standard_ghosts) reader_is_sent, (Box-send RunWriter.the_row writer_is_sent, tt))

run_is_sent : IsSend Run.the_row
run_is_sent = search (sendable, inside_run_is_sent) depth 20

pub content_is_sent : IsSend Content.the_row
content_is_sent = search (sendable, agent_is_sent, store_is_sent, transaction_is_sent, location_is_sent, instructions_is_sent, audit_is_sent, run_is_sent) depth 20
