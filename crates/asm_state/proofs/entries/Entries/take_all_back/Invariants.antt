use Rattle.std.proofs.Common.{vec_len}
use Rattle.asm_aggregate.specs.Bundle.{by_place}
use Rattle.asm_state.specs.Replaced.{AreReplaced}
use Rattle.asm_state.specs.View.{Entries}
use Rattle.asm_state.proofs.entries.Entries.take_all_back.Given as goal

abbrev pub decreases-loop-at : goal.decreases-loop-at
decreases-loop-at l = vec_len l.replaced

-- from the same old entries, the notes that are left lead to the entries as they are now
abbrev pub invariant-loop-at : goal.invariant-loop-at
invariant-loop-at l = (old : Entries) → AreReplaced (by_place l.fn.replaced.items) old l.fn.self → AreReplaced (by_place l.replaced.items) old l.self
