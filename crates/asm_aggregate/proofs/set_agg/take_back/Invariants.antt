use Rattle.asm_aggregate.specs.Sets.{IsSameBesides}
use Rattle.asm_aggregate.proofs.set_agg.take_back.Given as goal

-- the set is the first one, besides what was noted and what of that is left
abbrev pub invariant-loop-element : goal.invariant-loop-element
invariant-loop-element l = IsSameBesides l.initial.elements l.initial.element-iterator.rest.items l.elements l.element-iterator.rest.items
