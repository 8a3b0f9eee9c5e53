use Rattle.std.proofs.Common.{◌≡◌, length}
use Rattle.asm_state.proofs.state.State.hold_locations.Given as goal

-- what was looked up is held in the place of what is equal
abbrev pub invariant-loop-i : goal.invariant-loop-i
invariant-loop-i l = (l.locations.items ≡ l.fn.locations.items) × (l.i-end ≡ length l.fn.locations.items)
