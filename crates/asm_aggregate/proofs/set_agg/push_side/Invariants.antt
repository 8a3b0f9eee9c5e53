use Rattle.std.proofs.Common.{◌≡◌, ◌++◌, map}
use Rattle.asm_aggregate.specs.SetMeaning.{set_action}
use Rattle.asm_aggregate.proofs.set_agg.push_side.Given as goal

-- with the actions of the elements that are left, the list is the first one with those of all
abbrev pub invariant-loop-element : goal.invariant-loop-element
invariant-loop-element l =
    l.actions.items ++ map (λ e. set_action l.side e) l.element-iterator
    ≡ l.initial.actions.items ++ map (λ e. set_action l.side e) l.initial.element-iterator
