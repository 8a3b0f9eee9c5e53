use Rattle.std.proofs.Common.{take, All}
use Rattle.asm_storage.specs.History.{EventFits}
use Rattle.asm_storage.specs.ReceiptOrder.{merged_event}
use Rattle.asm_storage.proofs.close.closing.all_fit.Given as goal

-- the events so far fit
abbrev pub invariant-loop-kept : goal.invariant-loop-kept
invariant-loop-kept l = All (λ s. EventFits l.agents (merged_event s)) (take l.kept-index l.receipts)
