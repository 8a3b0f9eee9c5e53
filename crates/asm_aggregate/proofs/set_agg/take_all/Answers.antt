use Rattle.std.proofs.Common.{◌∙◌}
use Rattle.std.specs.Map.Iter.{deref}
use Rattle.std.proofs.lemmas.Map.Iter.{rest_all, rest_more}
use Rattle.asm_aggregate.proofs.SetSteps.{without_more, without_all}
use Rattle.asm_aggregate.proofs.set_agg.take_all.Goals as goal

pub loop-element-preserved : goal.loop-element-preserved
loop-element-preserved c =
    without_more _ _ _ _ _ _ _
    (rest_more deref _ _ _ _ c.in-Some.is c.next.ensures.steps) c.remove.ensures.new c.loop-element.invariant

pub returns : goal.returns
returns c =
    without_all _ _ _ _ _ (rest_all deref _ _ _ c.in-None.is c.next.ensures.steps)
    (c.into_iter-element-iterator.ensures.into_iter_gives ∙ c.iter-element-items.ensures.elements)
    c.loop-element.invariant
