use Rattle.std.proofs.Common.{◌∷◌, [], List, All, subst, ◌∙◌}
use Rattle.std.proofs.lemmas.List.{take_all}
use Rattle.std.proofs.lemmas.List.Elements.{All-cons, All-head, All-more, All-nil, All-tail}
use Rattle.std.specs.FinMap as finite
use Rattle.asm_update.specs.Action.{IsProperInstruction}
use Rattle.asm_step.specs.Layers.{Layer, layers_on}
use Rattle.asm_step.specs.Outcomes.{Outcomes, stacked}
use Rattle.asm_step.specs.declared.layer.OwnLayer.{OwnLayer}
use Rattle.asm_step.proofs.step.Step.proper.Goals as goal

-- what holds of the moves of layers holds of those that contracts see
all_on : (m : Outcomes) (s : List OwnLayer) → All (λ (y : OwnLayer). All (All IsProperInstruction) y.moves) s →
    All (λ (y : Layer). All (All IsProperInstruction) y.moves) (layers_on m s)
all_on m [] h = All-nil (λ (y : Layer). All (All IsProperInstruction) y.moves)
all_on m (x ∷ s) h =
    All-cons (λ (y : Layer). All (All IsProperInstruction) y.moves) _ (layers_on (stacked m x.own) s)
    (All-head (λ (y : OwnLayer). All (All IsProperInstruction) y.moves) x s h)
    (all_on (stacked m x.own) s (All-tail (λ (y : OwnLayer). All (All IsProperInstruction) y.moves) x s h))

pub loop-layer-preserved : goal.loop-layer-preserved
loop-layer-preserved c =
    All-more (λ (y : OwnLayer). All (All IsProperInstruction) y.moves) c.deref-layer-items.result.now c.loop-layer.layer-index
    c.layer-item.result c.loop-layer-test.true c.loop-layer.invariant
    (subst (λ (y : OwnLayer). All (All IsProperInstruction) y.moves) c.layer-item.is c.proper.ensures)

pub returns : goal.returns
returns c =
    let items = c.deref-layer-items.result.now in
    subst (λ (s : List Layer). All (λ (y : Layer). All (All IsProperInstruction) y.moves) s) c.self.view_is
    (all_on finite.empty c.self.inside.layers.items
    (subst (λ (s : List OwnLayer). All (λ (y : OwnLayer). All (All IsProperInstruction) y.moves) s)
    (take_all c.loop-layer.layer-index items c.loop-layer-test.false ∙ c.deref-layer-items.ensures.value) c.loop-layer.invariant))
