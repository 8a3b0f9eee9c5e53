use Rattle.std.proofs.Common.{take, All}
use Rattle.asm_storage.specs.Proper.{IsProperEvent}
use Rattle.asm_storage.specs.ReceiptOrder.{merged_event}
use Rattle.asm_storage.proofs.close.closing.proper_events.Given as goal

-- the events so far are proper
abbrev pub invariant-loop-kept : goal.invariant-loop-kept
invariant-loop-kept l = All (λ s. IsProperEvent (merged_event s)) (take l.kept-index l.receipts)
