use Rattle.std.proofs.Common.{◌≡◌, ◌++◌, string_bytes}
use Rattle.std.specs.Prelude.{take}
use Rattle.asm_journal.specs.Text.{line, header_json_of, events_text}
use Rattle.asm_journal.proofs.writing.to_text.Given as goal

-- the header's line and those of the events so far
abbrev pub invariant-loop-event : goal.invariant-loop-event
invariant-loop-event l = string_bytes l.text ≡ line (header_json_of l.history) ++ events_text (take l.event-index l.history.events)
