use Rattle.asm_aggregate.proofs.SetSteps.{AlikeWith}
use Rattle.asm_aggregate.proofs.set_agg.with.Given as goal

-- with the elements that are left, the set is the first one with all of them
abbrev pub invariant-loop-element : goal.invariant-loop-element
invariant-loop-element l = AlikeWith l.set l.element-iterator l.initial.set l.initial.element-iterator
