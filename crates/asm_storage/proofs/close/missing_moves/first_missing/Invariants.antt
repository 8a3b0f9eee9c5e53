use Rattle.std.proofs.Common.{◌≡◌, ℕ, ◌<◌, true, false, length, take, slice_index_or}
use Rattle.asm_storage.specs.Agents.{has_receipt}
use Rattle.asm_storage.specs.Storage.{accounts}
use Rattle.asm_storage.proofs.close.missing_moves.first_missing.Given as goal

abbrev pub invariant-loop-agent : goal.invariant-loop-agent
invariant-loop-agent g l = record {
  same_len : length l.reported.items ≡ l.fn.moves;
  reported_is : (k : ℕ) → k < l.fn.moves → slice_index_or l.reported.items k false ≡ has_receipt (accounts (take l.agent-index l.agents)) k;
}

abbrev pub invariant-loop-k : goal.invariant-loop-k
invariant-loop-k g l = (j : ℕ) → j < l.k → slice_index_or l.is_reported-items j false ≡ true
