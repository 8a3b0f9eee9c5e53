use Rattle.std.proofs.Common.{◌≡◌, map, take}
use Rattle.asm_storage.specs.Storage.{accounts}
use Rattle.asm_storage.specs.ReceiptOrder.{receipts_with_ids, id_and_receipt}
use Rattle.asm_storage.proofs.close.merging.all_receipts.Given as goal

abbrev pub invariant-loop-agent : goal.invariant-loop-agent
invariant-loop-agent g l = map id_and_receipt l.all.items ≡ receipts_with_ids (accounts (take l.agent-index l.agents))
