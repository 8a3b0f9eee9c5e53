use Rattle.std.proofs.Common.{◌≡◌, ◌<◌, ℕ, None, length, slice_index_or}
use Rattle.asm_slots.specs.declared.slot.Slot.{Slot}
use Rattle.asm_slots.proofs.opening.clear.Given as goal

abbrev pub invariant-loop-at : goal.invariant-loop-at
invariant-loop-at l = (length l.slots ≡ length l.fn.slots)
    × ((k : ℕ) (d : Slot) → k < l.at → (slice_index_or l.slots k d).handle.value ≡ None)
