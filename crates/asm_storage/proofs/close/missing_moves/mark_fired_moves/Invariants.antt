use Rattle.std.proofs.Common.{◌≡◌, ℕ, ◌<◌, ◌||◌, false, length, take, slice_index_or}
use Rattle.std.specs.List.{list_any}
use Rattle.asm_storage.specs.Agents.{is_move_at}
use Rattle.asm_storage.proofs.close.missing_moves.mark_fired_moves.Given as goal

abbrev pub invariant-loop-receipt : goal.invariant-loop-receipt
invariant-loop-receipt l = (k : ℕ) → k < length l.fn.reported → slice_index_or l.reported k false ≡ (slice_index_or l.fn.reported k false || list_any (is_move_at k) (take l.receipt-index l.receipts))
