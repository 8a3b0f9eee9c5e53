use Rattle.std.proofs.Common.{◌≡◌, ◌++◌, map}
use Rattle.asm_step.specs.Front.{set_update}
use Rattle.asm_step.proofs.sides.push_side.Given as goal

-- with the actions of the elements that are left, the list is the first one with those of all
abbrev pub invariant-loop-element : goal.invariant-loop-element
invariant-loop-element l =
    l.actions.items ++ map (set_update l.adds) l.element-iterator
    ≡ l.initial.actions.items ++ map (set_update l.adds) l.initial.element-iterator
