use Rattle.std.proofs.Common.{ℕ, ◌<◌, get_or}
use Rattle.asm_storage.specs.declared.history.Event.{Event}
use Rattle.asm_storage.specs.Proper.{IsProperEvent}
use Rattle.asm_storage.proofs.proper.proper_events.Given as goal

-- those so far are proper
abbrev pub invariant-loop-event : goal.invariant-loop-event
invariant-loop-event l = (k : ℕ) (d : Event) → k < l.event-index → IsProperEvent (get_or l.events k d)
