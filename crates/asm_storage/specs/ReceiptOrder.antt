-- Receipts with their agents' ids, and the order in which they merge.
use Rattle.std.specs.Prelude.{ℕ, ◌+◌, ◌*◌, List, map, if◌then◌else◌}
use Rattle.std.specs.List.{flat_map}
use Rattle.asm_storage.specs.declared.receipt.Receipt.{Receipt}
use Rattle.asm_storage.specs.declared.close.merging.AgentReceipt.{AgentReceipt}
use Rattle.asm_storage.specs.declared.history.Event.{Event}
use Rattle.asm_storage.specs.Agents.{AgentView, event_of, is_fired}

-- where a receipt merges: twice its number, and one more for a move
abbrev pub key : Receipt → ℕ
key r = 2 * r.stood + (if is_fired r then 1 else 0)

abbrev pub key_of : AgentReceipt → ℕ
key_of s = key s.receipt.now

-- a receipt with the id of its agent
abbrev pub with_id : ℕ → Receipt → ℕ × Receipt
with_id id r = (id, r)

-- the receipts agent by agent, each with its agent's id
abbrev pub receipts_with_ids : List AgentView → List (ℕ × Receipt)
receipts_with_ids agents = flat_map (λ a. map (with_id a.id) a.receipts) agents

abbrev pub id_and_receipt : AgentReceipt → ℕ × Receipt
id_and_receipt s = (s.agent, s.receipt.now)

-- the event of an agent's receipt
abbrev pub merged_event : AgentReceipt → Event
merged_event s = event_of s.agent s.receipt.now
