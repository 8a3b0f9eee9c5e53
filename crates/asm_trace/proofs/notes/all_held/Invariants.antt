use Rattle.std.proofs.Common.{◌≡◌, take, map}
use Rattle.asm_state.specs.View.{value_at}
use Rattle.asm_trace.proofs.notes.all_held.Given as goal

-- the values of the locations so far
abbrev pub invariant-loop-place : goal.invariant-loop-place
invariant-loop-place l = l.values.items ≡ map (value_at l.state) (take l.place-index l.places)
