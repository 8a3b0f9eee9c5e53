use Rattle.std.proofs.Common.{◌≡◌, length}
use Rattle.asm_journal.specs.Reading.{HasEvents}
use Rattle.asm_journal.proofs.parsing.read_events.Given as goal

abbrev pub invariant-loop-index : goal.invariant-loop-index
invariant-loop-index l = (length l.events.items ≡ l.index) × HasEvents l.limits.version l.limits.agents l.text l.events.items l.rest
