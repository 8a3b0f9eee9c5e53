use Rattle.std.proofs.Common.{◌≡◌, length}
use Rattle.asm_state.proofs.state.State.hold_move.Given as goal

-- what was looked up is held in the place of what is equal
abbrev pub invariant-loop-i : goal.invariant-loop-i
invariant-loop-i l = (l.instrs ≡ l.fn.instrs) × (l.i-end ≡ length l.fn.instrs)
