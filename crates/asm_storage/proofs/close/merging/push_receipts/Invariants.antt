use Rattle.std.proofs.Common.{◌≡◌, ◌++◌, map, take}
use Rattle.asm_storage.specs.ReceiptOrder.{with_id, id_and_receipt}
use Rattle.asm_storage.proofs.close.merging.push_receipts.Given as goal

abbrev pub invariant-loop-receipt : goal.invariant-loop-receipt
invariant-loop-receipt l = map id_and_receipt l.all.items ≡ map id_and_receipt l.fn.all.items ++ map (with_id l.agent) (take l.receipt-index l.receipts)
