use Rattle.asm_aggregate.proofs.SetSteps.{AlikeWithout}
use Rattle.asm_aggregate.proofs.set_agg.take_all.Given as goal

-- without the elements that are left, the set is the first one without all of them
abbrev pub invariant-loop-element : goal.invariant-loop-element
invariant-loop-element l = AlikeWithout l.set l.element-iterator l.initial.set l.initial.element-iterator
