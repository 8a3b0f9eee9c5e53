use Rattle.std.proofs.Common.{◌≡◌, ◌<◌, ℕ, None, slice_index_or}
use Rattle.asm_slots.specs.declared.slot.Slot.{Slot}
use Rattle.asm_slots.proofs.opening.is_any_full.Given as goal

abbrev pub invariant-loop-slot : goal.invariant-loop-slot
invariant-loop-slot l = (k : ℕ) (d : Slot) → k < l.slot-index → (slice_index_or l.slots k d).handle.value ≡ None
