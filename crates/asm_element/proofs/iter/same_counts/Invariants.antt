use Rattle.std.proofs.Common.{◌≡◌, ◌&&◌, length}
use Rattle.std.specs.Bool.{◌==◌}
use Rattle.std.specs.Cmp.Lexicographic.{pointwise}
use Rattle.std.specs.Ordering.{eq_by_cmp}
use Rattle.asm_element.specs.Element.{element_cmp}
use Rattle.asm_element.proofs.iter.same_counts.Given as goal

abbrev pub decreases-loop-x : goal.decreases-loop-x
decreases-loop-x l = length l.mine

abbrev pub invariant-loop-x : goal.invariant-loop-x
invariant-loop-x l = pointwise (λ p q. eq_by_cmp element_cmp p.0 q.0 && p.1 == q.1) l.mine l.theirs ≡ pointwise (λ p q. eq_by_cmp element_cmp p.0 q.0 && p.1 == q.1) l.initial.mine l.initial.theirs
