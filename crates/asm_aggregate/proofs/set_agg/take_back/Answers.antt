use Rattle.asm_aggregate.proofs.SetSteps.{besides_then, besides_taken}
use Rattle.asm_aggregate.proofs.set_agg.take_back.Goals as goal

pub loop-element-preserved : goal.loop-element-preserved
loop-element-preserved c =
    besides_then _ _ _ _ _ _ c.loop-element.invariant
    (besides_taken _ _ _ _ c.in-Some.element c.in-Some.ensures.steps.0 c.remove.ensures.new)
