use Rattle.std.proofs.Common.{◌≡◌, ◌++◌, string_bytes}
use Rattle.std.specs.Prelude.{take}
use Rattle.asm_journal.specs.Text.{line, header_json_of, events_text}
use Rattle.asm_journal.proofs.writing.closing_text.Given as goal

-- the header's line and those of the events so far
abbrev pub invariant-loop-number : goal.invariant-loop-number
invariant-loop-number l = string_bytes l.text ≡ line (header_json_of l.closing) ++ events_text (take l.number l.closing.events)
