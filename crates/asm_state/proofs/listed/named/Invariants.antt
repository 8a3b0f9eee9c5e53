use Rattle.std.proofs.Common.{◌≡◌, ◌++◌}
use Rattle.asm_state.specs.Listed.{by_value}
use Rattle.asm_state.specs.Merging.{front}
use Rattle.asm_state.proofs.listed.named.Given as goal

abbrev pub invariant-loop-at : goal.invariant-loop-at
invariant-loop-at g l =
    (goal.iterator-loop-at g).can_next l.at-iterator × (goal.iterator-loop-at g).is_finite l.at-iterator
    × (by_value l.list.items ++ front l.name l.at-iterator ≡ front l.name l.initial.at-iterator)
