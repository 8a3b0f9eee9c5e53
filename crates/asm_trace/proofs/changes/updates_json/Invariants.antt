use Rattle.asm_state.specs.View.{value_at}
use Rattle.asm_journal.proofs.Arrays.{AreWritten}
use Rattle.asm_trace.proofs.Making.{update_json_of}
use Rattle.asm_trace.proofs.changes.updates_json.Given as goal

abbrev pub invariant-loop-at : goal.invariant-loop-at
invariant-loop-at l = AreWritten (update_json_of (value_at l.state)) l.list.items l.at-iterator l.initial.at-iterator
