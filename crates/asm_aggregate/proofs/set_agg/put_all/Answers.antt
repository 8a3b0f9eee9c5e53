use Rattle.std.proofs.Common.{◌∙◌, refl}
use Rattle.std.specs.Map.Iter.{deref}
use Rattle.std.proofs.lemmas.Map.Iter.{rest_all, rest_more}
use Rattle.asm_aggregate.specs.Sets.{IsSameBesides}
use Rattle.asm_aggregate.proofs.SetSteps.{with_more, with_all, besides_then}
use Rattle.asm_aggregate.proofs.set_agg.put_all.Goals as goal

pub loop-element-preserved : goal.loop-element-preserved
loop-element-preserved c = record {
  alike =
      with_more _ _ _ _ _ _ _ _
      (rest_more deref _ _ _ _ c.in-Some.is c.next.ensures.steps) refl c.in_ok-put_noting.ensures.ok
      c.loop-element.invariant.alike;
  besides = besides_then _ _ _ _ _ _ c.loop-element.invariant.besides c.put_noting.ensures.besides;
}

pub returns-clause-ok : goal.returns-clause-ok
returns-clause-ok c =
    with_all _ _ _ _ _ (rest_all deref _ _ _ c.in-None.is c.next.ensures.steps)
    (c.into_iter-element-iterator.ensures.into_iter_gives ∙ c.iter-element-items.ensures.elements)
    c.loop-element.invariant.alike

pub returns-in_err-put_noting-clause-besides : goal.returns-in_err-put_noting-clause-besides
returns-in_err-put_noting-clause-besides c =
    besides_then _ _ _ _ _ _ c.loop-element.invariant.besides c.put_noting.ensures.besides
