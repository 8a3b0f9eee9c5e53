use Rattle.std.proofs.Common.{◌∷◌, ◌++◌, [], ap, ◌∙◌}
use Rattle.std.specs.Map.Iter.{deref}
use Rattle.std.proofs.lemmas.Map.Iter.{rest_all, rest_more}
use Rattle.asm_aggregate.proofs.SetSteps.{pushed_more, pushed_all}
use Rattle.asm_step.specs.Front.{set_update}
use Rattle.asm_step.proofs.sides.push_side.Goals as goal

pub loop-element-preserved : goal.loop-element-preserved
loop-element-preserved c =
    pushed_more (set_update c.args.adds) _ _ _ _ _ _
    (rest_more deref _ _ _ _ c.in-Some.is c.next.ensures.steps)
    (c.in_ok-push.ensures.items
    ∙ ap (λ x. c.loop-element.actions.items ++ x ∷ [])
    (c.update_of.ensures ∙ ap (set_update c.args.adds) c.in_ok-copy.ensures))
    c.loop-element.invariant

pub returns : goal.returns
returns c =
    pushed_all (set_update c.args.adds) _ _ _ _ _ (rest_all deref _ _ _ c.in-None.is c.next.ensures.steps)
    (c.into_iter-element-iterator.ensures.into_iter_gives ∙ c.iter-element-items.ensures.elements)
    c.loop-element.invariant
