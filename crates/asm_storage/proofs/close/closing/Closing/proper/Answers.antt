use Rattle.std.proofs.Common.{All, subst}
use Rattle.std.proofs.lemmas.List.Elements.{All-map}
use Rattle.asm_storage.specs.Proper.{IsProper, IsProperEvent}
use Rattle.asm_storage.specs.ReceiptOrder.{merged_event}
use Rattle.asm_storage.specs.declared.close.merging.AgentReceipt.{AgentReceipt}
use Rattle.asm_storage.proofs.close.closing.Closing.proper.Goals as goal

pub returns : goal.returns
returns c =
    let of_receipt : AgentReceipt → Type 0 = λ kept. IsProperEvent (merged_event kept) in
    let each = subst (All of_receipt) c.as_slice.ensures.value c.proper_events.ensures in
    subst IsProper c.self.view_is (c.proper.ensures, All-map IsProperEvent merged_event c.self.inside.receipts.items each)
