use Rattle.asm_aggregate.specs.BagMeaning.{joined_amount}
use Rattle.asm_aggregate.proofs.BagSteps.{AreJoining}
use Rattle.asm_aggregate.proofs.bag_agg.joined_actions.Given as goal

-- with the actions of the elements that are left, the lists are those of all elements
abbrev pub invariant-loop-element : goal.invariant-loop-element
invariant-loop-element l =
    AreJoining (joined_amount l.first l.second) l.additions.items l.removals.items l.element-iterator
    l.initial.element-iterator
