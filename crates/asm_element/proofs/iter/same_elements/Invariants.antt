use Rattle.std.proofs.Common.{◌≡◌, ◌&&◌, length}
use Rattle.std.specs.Bool.{◌==◌}
use Rattle.std.specs.Cmp.Lexicographic.{pointwise}
use Rattle.std.specs.Ordering.{eq_by_cmp}
use Rattle.asm_element.specs.Element.{element_cmp}
use Rattle.asm_element.proofs.iter.same_elements.Given as goal

abbrev pub decreases-loop-x : goal.decreases-loop-x
decreases-loop-x l = length l.mine

abbrev pub invariant-loop-x : goal.invariant-loop-x
invariant-loop-x l = pointwise (eq_by_cmp element_cmp) l.mine l.theirs ≡ pointwise (eq_by_cmp element_cmp) l.initial.mine l.initial.theirs
