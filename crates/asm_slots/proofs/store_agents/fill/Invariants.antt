use Rattle.std.proofs.Common.{◌≡◌, ◌<◌, ℕ, length, slice_index_or}
use Rattle.std_alloc.specs.Arc.{arc_value}
use Rattle.asm_storage.specs.Storage.{at_start}
use Rattle.asm_slots.specs.Slots.{Holds, an_agent}
use Rattle.asm_slots.specs.declared.slot.Slot.{Slot}
use Rattle.asm_slots.proofs.store_agents.fill.Given as goal

abbrev pub invariant-loop-id : goal.invariant-loop-id
invariant-loop-id l = (length l.agents ≡ length l.fn.agents)
    × ((k : ℕ) (d : Slot) → k < l.id → Holds an_agent (slice_index_or l.agents k d).handle.value (λ a. a ≡ at_start (arc_value l.shared).storage k))
