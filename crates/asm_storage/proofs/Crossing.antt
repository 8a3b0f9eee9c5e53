-- Storages, their agents and marks may cross threads.
use denote.RattleType.{RattleType}
use denote.Param.Send.{IsSend, IsSync, sendable}
use denote.Hole.{as_row}
use denote.Param.SendFields.{as_row_sync, declared_send, declared_sync, variants_send}
use denote.Ref.{NamedLft}
use denote.Struct.Field.{row_field, shr_ref_field, u32-field}
use Rattle.std.proofs.Crossing.{Arc-sync, Vec-send}
use Rattle.asm_element.proofs.items.Items.TheSendSync as items
use Rattle.asm_element.proofs.Crossing.{location_is_sent, location_is_shared, value_is_sent, value_is_shared}
use Rattle.asm_element.specs.contracts.items.Items as Items
use Rattle.asm_element.specs.contracts.location.Location as Location
use Rattle.asm_element.specs.contracts.value.Value as Value
use Rattle.asm_row.proofs.row.Row.TheSendSync as row
use Rattle.asm_row.proofs.progress.Progress.TheSendSync as progress
use Rattle.asm_row.proofs.mark.Mark.TheSendSync as mark
use Rattle.asm_row.specs.contracts.row.Row as Row
use Rattle.asm_row.specs.contracts.mark.Mark as Mark
use Rattle.asm_state.proofs.Crossing.{named_is_sent, named_is_shared}
use Rattle.asm_state.proofs.Crossing as states
use Rattle.asm_state.specs.contracts.named.Named as Named
use Rattle.asm_update.proofs.Crossing.{instructions_is_sent, instructions_is_shared, state_is_sent, state_is_shared}
use Rattle.asm_update.specs.declared.aggregator.Aggregator
use Rattle.asm_storage.specs.contracts.entry.Entry as Entry
use Rattle.asm_storage.specs.contracts.receipt.Receipt as Receipt
use Rattle.asm_storage.specs.contracts.call.Call as Call
use Rattle.asm_storage.specs.contracts.call.Reply as Reply
use Rattle.asm_storage.specs.contracts.call.Answer as Answer
use Rattle.asm_storage.specs.contracts.part.AgentPart as Part
use Rattle.asm_storage.specs.contracts.storage.Storage as Storage
use Rattle.asm_storage.specs.contracts.storage.Storage.TheInside as InsideStorage
use Rattle.asm_storage.specs.contracts.agent.Agent as Agent
use Rattle.asm_storage.specs.contracts.agent.Agent.TheInside as InsideAgent

entry_is_sent : IsSend Entry.the_row
entry_is_sent = search (sendable, instructions_is_sent) depth 20

entry_is_shared : IsSync Entry.the_row
entry_is_shared = search (sendable, instructions_is_shared) depth 20

places_are_sent : IsSend (Items.the_row Location.the_row)
places_are_sent = items.the_send Location.the_row location_is_sent location_is_shared

reads_are_sent : IsSend (Items.the_row Named.the_row)
reads_are_sent = items.the_send Named.the_row named_is_sent named_is_shared

values_are_sent : IsSend (Items.the_row Value.the_row)
values_are_sent = items.the_send Value.the_row value_is_sent value_is_shared

call_is_sent : IsSend Call.the_row
call_is_sent = search (sendable, places_are_sent, reads_are_sent, instructions_is_sent) depth 20

reply_is_sent : IsSend Reply.the_row
reply_is_sent = search (sendable, location_is_sent) depth 20

number_is_sent : IsSend (as_row u32-field)
number_is_sent = search sendable depth 20

answer_is_sent : IsSend Answer.the_row
answer_is_sent = variants_send Answer.enum ((number_is_sent, (values_are_sent, tt)), ((reply_is_sent, tt), tt))

pub receipt_is_sent : IsSend Receipt.the_row
receipt_is_sent = declared_send Receipt.the_type (call_is_sent, (answer_is_sent, (number_is_sent, tt)))

-- an agent beside its borrow
pub part_is_sent : IsSend Part.the_row
part_is_sent = search (sendable, progress.the_send, states.state_is_sent, Vec-send, receipt_is_sent) depth 20

pub mark_is_sent : IsSend (Mark.the_row Entry.the_row)
mark_is_sent = search (sendable, mark.the_send) depth 20

-- a storage, where its aggregator may be read by several threads, and an agent of it
module _ (A : RattleType) (a : IsSync A) (g : Aggregator.Ghosts A.Denot) where
  inside_storage_is_shared : IsSync (InsideStorage.the_row A g)
  inside_storage_is_shared =
      let cells : IsSync (Row.the_row Entry.the_row) = row.the_sync Entry.the_row entry_is_sent entry_is_shared in
      declared_sync (InsideStorage.the_type A g) (cells, (as_row_sync (row_field A) a, (search (sendable, Arc-sync, state_is_sent, state_is_shared) depth 20, tt)))

  pub storage_is_shared : IsSync (Storage.the_row A g)
  storage_is_shared = search (sendable, inside_storage_is_shared) depth 20

  module _ (κ : NamedLft) where
    inside_agent_is_sent : IsSend (InsideAgent.the_row κ A g)
    inside_agent_is_sent =
        let borrow : IsSend (as_row (shr_ref_field κ (Storage.the_row A g) tt)) = search (sendable, storage_is_shared) depth 20 in
        declared_send (InsideAgent.the_type κ A g) (borrow, (part_is_sent, tt))

    pub agent_is_sent : IsSend (Agent.the_row κ A g)
    agent_is_sent = search (sendable, inside_agent_is_sent) depth 20
