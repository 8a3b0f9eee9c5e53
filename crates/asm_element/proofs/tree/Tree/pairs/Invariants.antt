use Rattle.std.proofs.Common.{◌≡◌, ◌++◌}
use Rattle.asm_element.proofs.tree.Tree.pairs.Given as goal

abbrev pub invariant-loop-key : goal.invariant-loop-key
invariant-loop-key l = l.pairs.items ++ l.key-iterator ≡ l.initial.pairs.items ++ l.initial.key-iterator
