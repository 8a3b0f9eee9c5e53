use Rattle.std.proofs.Common.{◌≡◌, ◌≤◌, ◌+◌, min, sum_by}
use Rattle.asm_transaction.specs.Members.{size_limit}
use Rattle.asm_transaction.proofs.members.bag_size.Given as goal

-- what is counted so far, with the counts that are left, is what all come to, up to the limit
abbrev pub invariant-loop-element : goal.invariant-loop-element
invariant-loop-element l =
    (l.size ≤ size_limit)
    × (min (l.size + sum_by (λ e. e.1) l._element-iterator) size_limit ≡ min (sum_by (λ e. e.1) l.initial._element-iterator) size_limit)
