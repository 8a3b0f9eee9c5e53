use Rattle.std.proofs.Common.{◌≡◌, ◌∷◌, [], ◌++◌, ◌+◌, List, take, ap, sym, ◌∙◌}
use Rattle.std.proofs.lemmas.List.{take_all, take_more}
use Rattle.std.specs.FinMap as finite
use Rattle.asm_step.specs.Layers.{Layer, outcomes_of}
use Rattle.asm_step.specs.Outcomes.{Outcomes, dependencies_in}
use Rattle.asm_step.specs.declared.layer.OwnLayer.{OwnLayer}
use Rattle.asm_step.proofs.OneMove.{no_dependencies, dependencies_are}
use Rattle.asm_step.proofs.Prefixes.{all_laid, all_laid-push, outcomes_all}
use Rattle.asm_step.proofs.Depending.{laid_nowhere}
use Rattle.asm_step.proofs.step.Step.depends_somewhere.Goals as goal

pub loop-layer-init : goal.loop-layer-init
loop-layer-init c = no_dependencies

pub loop-layer-preserved : goal.loop-layer-preserved
loop-layer-preserved c =
    let items = c.deref-layer-items.result.now in
    let i = c.loop-layer.layer-index in
    let y = c.layer-item.result in
    let more : take (i + 1) items ≡ take i items ++ y ∷ [] =
    take_more items i y c.loop-layer-test.true ∙ ap (λ x. take i items ++ x ∷ []) (sym c.layer-item.is) in
    ap (λ (s : List OwnLayer). dependencies_in (all_laid finite.empty s)) more
    ∙ ap (λ (os : Outcomes). dependencies_in os) (all_laid-push finite.empty (take i items) y)
    ∙ laid_nowhere (all_laid finite.empty (take i items)) y.own c.loop-layer.invariant c.if-depends_somewhere.ensures

pub returns : goal.returns
returns c =
    let items = c.deref-layer-items.result.now in
    let all = ap (all_laid finite.empty) (take_all c.loop-layer.layer-index items c.loop-layer-test.false ∙ c.deref-layer-items.ensures.value)
    ∙ sym (outcomes_all c.self.inside.layers.items) ∙ ap (λ (s : List Layer). outcomes_of s) c.self.view_is in
    sym (dependencies_are c.args.self.now) ∙ ap (λ (os : Outcomes). dependencies_in os) (sym all) ∙ c.loop-layer.invariant
