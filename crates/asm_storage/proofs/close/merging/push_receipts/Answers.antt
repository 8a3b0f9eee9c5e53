use Rattle.std.proofs.Common.{map, refl}
use Rattle.asm_storage.specs.ReceiptOrder.{id_and_receipt}
use Rattle.asm_storage.proofs.MergedReceipts.{one_receipt_more}
use Rattle.asm_storage.proofs.close.merging.push_receipts.Goals as goal

pub loop-receipt-preserved : goal.loop-receipt-preserved
loop-receipt-preserved c =
    one_receipt_more (map id_and_receipt c.args.all.now.items) c.args.agent c.args.receipts.now c.loop-receipt.receipt-index
    c.receipt-item.result c.loop-receipt.all.items c.push.new.self.items _ c.loop-receipt-test.true
    c.receipt-item.is c.loop-receipt.invariant c.in_ok-push.ensures.items refl
