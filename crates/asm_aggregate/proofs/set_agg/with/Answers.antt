use Rattle.std.proofs.Common.{◌∙◌}
use Rattle.std.specs.Map.Iter.{deref}
use Rattle.std.proofs.lemmas.Map.Iter.{rest_all, rest_more}
use Rattle.asm_aggregate.proofs.SetSteps.{with_more, with_all}
use Rattle.asm_aggregate.proofs.set_agg.with.Goals as goal

pub loop-element-preserved : goal.loop-element-preserved
loop-element-preserved c =
    with_more _ _ _ _ _ _ _ _
    (rest_more deref _ _ _ _ c.in-Some.is c.next.ensures.steps) c.in_ok-copy.ensures c.in_ok-insert.ensures.ok
    c.loop-element.invariant

pub returns : goal.returns
returns c =
    with_all _ _ _ _ _ (rest_all deref _ _ _ c.in-None.is c.next.ensures.steps)
    (c.into_iter-element-iterator.ensures.into_iter_gives ∙ c.iter-element-items.ensures.elements)
    c.loop-element.invariant
