use Rattle.std.proofs.Common.{take, All}
use Rattle.asm_storage.specs.History.{EventFits}
use Rattle.asm_storage.proofs.history.all_fit.Given as goal

-- the events so far fit
abbrev pub invariant-loop-event : goal.invariant-loop-event
invariant-loop-event l = All (EventFits l.agents) (take l.event-index l.events)
