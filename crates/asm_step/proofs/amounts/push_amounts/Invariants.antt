use Rattle.std.proofs.Common.{◌≡◌, ◌++◌}
use Rattle.std.specs.List.{flat_map}
use Rattle.asm_step.specs.Front.{so_many}
use Rattle.asm_step.proofs.amounts.push_amounts.Given as goal

-- with the actions of the elements that are left, the list is the first one with those of all
abbrev pub invariant-loop-element : goal.invariant-loop-element
invariant-loop-element l =
    l.actions.items ++ flat_map (λ e. so_many l.adds e.0 e.1) l.element-iterator
    ≡ l.initial.actions.items ++ flat_map (λ e. so_many l.adds e.0 e.1) l.initial.element-iterator
