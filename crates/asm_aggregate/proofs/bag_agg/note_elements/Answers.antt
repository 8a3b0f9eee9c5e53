use Rattle.std.proofs.Common.{refl, ap, ◌∙◌}
use Rattle.asm_aggregate.specs.BagMeaning.{element_of}
use Rattle.asm_aggregate.specs.Sets.{with_element}
use Rattle.asm_aggregate.proofs.SetSteps.{gathered_none, gathered_more, gathered_all}
use Rattle.asm_aggregate.proofs.bag_agg.note_elements.Goals as goal

pub loop-action-init : goal.loop-action-init
loop-action-init c = gathered_none element_of _ _ refl

pub loop-action-preserved : goal.loop-action-preserved
loop-action-preserved c =
    gathered_more element_of _ _ _ _ _ _ (record { within = c.loop-action-test.true; read = c.action-item.is })
    (c.in_ok-note.ensures ∙ ap (with_element c.loop-action.elements) c.element_named.ensures) c.loop-action.invariant

pub returns : goal.returns
returns c = (gathered_all element_of _ _ _ _ c.loop-action-test.false c.loop-action.invariant).has
