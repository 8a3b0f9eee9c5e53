use Rattle.std.proofs.Common.{ap, ◌∙◌}
use Rattle.asm_aggregate.specs.Sets.{with_element}
use Rattle.asm_aggregate.specs.SetMeaning.{element_on}
use Rattle.asm_aggregate.specs.declared.side.Side.TheVariants.{Added, Removed}
use Rattle.asm_aggregate.proofs.SetSteps.{gathered_none, gathered_more, gathered_all, gathered_is}
use Rattle.asm_aggregate.proofs.set_agg.sides_of.Goals as goal

pub loop-action-init : goal.loop-action-init
loop-action-init c = record {
  adds = gathered_none (element_on Added) _ _ c.new-added.ensures;
  removes = gathered_none (element_on Removed) _ _ c.new-removed.ensures;
}

pub loop-action-preserved : goal.loop-action-preserved
loop-action-preserved c = record {
  adds =
      gathered_more (element_on Added) _ _ _ _ _ _
      (record { within = c.loop-action-test.true; read = c.action-item.is })
      (c.in_ok-note.ensures ∙ ap (with_element c.loop-action.added) c.element_of.ensures) c.loop-action.invariant.adds;
  removes =
      gathered_more (element_on Removed) _ _ _ _ _ _
      (record { within = c.loop-action-test.true; read = c.action-item.is })
      (c.in_ok-note-2.ensures ∙ ap (with_element c.loop-action.removed) c.element_of-in-loop-action.ensures)
      c.loop-action.invariant.removes;
}

pub returns-clause-added : goal.returns-clause-added
returns-clause-added c =
    gathered_is (element_on Added) _ _
    (gathered_all (element_on Added) _ _ _ _ c.loop-action-test.false c.loop-action.invariant.adds)

pub returns-clause-removed : goal.returns-clause-removed
returns-clause-removed c =
    gathered_is (element_on Removed) _ _
    (gathered_all (element_on Removed) _ _ _ _ c.loop-action-test.false c.loop-action.invariant.removes)
