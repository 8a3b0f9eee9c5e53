-- States and named reads may cross threads.
use denote.Param.Send.{IsSend, IsSync, sendable}
use Rattle.std.proofs.Crossing.{Arc-send, Arc-sync}
use Rattle.std.proofs.MapsCrossing.{BTreeMap-send, BTreeMap-sync}
use Rattle.asm_element.proofs.Crossing.{location_is_sent, location_is_shared, value_is_sent, value_is_shared}
use Rattle.asm_update.proofs.Crossing as plain
use Rattle.asm_state.specs.contracts.named.Named as Named
use Rattle.asm_state.specs.contracts.entries.WrittenValue as WrittenValue
use Rattle.asm_state.specs.contracts.entries.Entries as Entries
use Rattle.asm_state.specs.contracts.entries.Entries.TheInside as InsideEntries
use Rattle.asm_state.specs.contracts.state.State as State
use Rattle.asm_state.specs.contracts.state.State.TheInside as InsideState

pub named_is_sent : IsSend Named.the_row
named_is_sent = search (sendable, location_is_sent) depth 20

pub named_is_shared : IsSync Named.the_row
named_is_shared = search (sendable, location_is_shared) depth 20

written_is_sent : IsSend WrittenValue.the_row
written_is_sent = search (sendable, value_is_sent) depth 20

written_is_shared : IsSync WrittenValue.the_row
written_is_shared = search (sendable, value_is_shared) depth 20

inside_entries_is_sent : IsSend InsideEntries.the_row
inside_entries_is_sent = search (sendable, BTreeMap-send, location_is_sent, written_is_sent) depth 20

inside_entries_is_shared : IsSync InsideEntries.the_row
inside_entries_is_shared = search (sendable, BTreeMap-sync, location_is_shared, written_is_shared) depth 20

entries_is_sent : IsSend Entries.the_row
entries_is_sent = search (sendable, inside_entries_is_sent) depth 20

entries_is_shared : IsSync Entries.the_row
entries_is_shared = search (sendable, inside_entries_is_shared) depth 20

inside_state_is_sent : IsSend InsideState.the_row
inside_state_is_sent =
    search (sendable, Arc-send, plain.state_is_sent, plain.state_is_shared, entries_is_sent) depth 20

inside_state_is_shared : IsSync InsideState.the_row
inside_state_is_shared =
    search (sendable, Arc-sync, plain.state_is_sent, plain.state_is_shared, entries_is_shared) depth 20

pub state_is_sent : IsSend State.the_row
state_is_sent = search (sendable, inside_state_is_sent) depth 20

pub state_is_shared : IsSync State.the_row
state_is_shared = search (sendable, inside_state_is_shared) depth 20
