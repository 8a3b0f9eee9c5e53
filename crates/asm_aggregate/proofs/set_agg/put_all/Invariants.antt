use Rattle.asm_aggregate.specs.Sets.{IsSameBesides}
use Rattle.asm_aggregate.proofs.SetSteps.{AlikeWith}
use Rattle.asm_aggregate.proofs.set_agg.put_all.Given as goal

-- with the elements that are left, the set is the first one with all of them, and besides what is noted it is that one
abbrev pub invariant-loop-element : goal.invariant-loop-element
invariant-loop-element l = record {
  alike : AlikeWith l.elements l.element-iterator l.initial.elements l.initial.element-iterator;
  besides : IsSameBesides l.initial.elements l.initial.fresh.items l.elements l.fresh.items;
}
