use Rattle.std.proofs.Common.{◌≡◌, ◌∷◌, [], ◌++◌, ◌+◌, List, take, ap, sym, ◌∙◌}
use Rattle.std.proofs.lemmas.List.{take_all, take_more}
use Rattle.std.specs.FinMap as finite
use Rattle.asm_step.specs.Layers.{Layer, outcomes_of}
use Rattle.asm_step.specs.Outcomes.{stacked}
use Rattle.asm_step.proofs.Stacked.{laid_is}
use Rattle.asm_step.proofs.Prefixes.{all_laid, all_laid-push, outcomes_all}
use Rattle.asm_step.proofs.step.Step.gathered.Goals as goal

pub loop-layer-init : goal.loop-layer-init
loop-layer-init c = c.new-all.ensures

pub loop-layer-preserved : goal.loop-layer-preserved
loop-layer-preserved c =
    let items = c.deref-layer-items.result.now in
    let i = c.loop-layer.layer-index in
    let y = c.layer-item.result in
    let more : take (i + 1) items ≡ take i items ++ y ∷ [] =
    take_more items i y c.loop-layer-test.true ∙ ap (λ x. take i items ++ x ∷ []) (sym c.layer-item.is) in
    laid_is c.loop-layer.all y.own c.gather.new.all c.in_ok-gather.ensures
    ∙ ap (λ m. stacked m y.own) c.loop-layer.invariant
    ∙ sym (ap (all_laid finite.empty) more ∙ all_laid-push finite.empty (take i items) y)

pub returns : goal.returns
returns c =
    let items = c.deref-layer-items.result.now in
    c.loop-layer.invariant ∙ ap (all_laid finite.empty) (take_all c.loop-layer.layer-index items c.loop-layer-test.false)
    ∙ ap (all_laid finite.empty) c.deref-layer-items.ensures.value
    ∙ sym (outcomes_all c.self.inside.layers.items) ∙ ap (λ (s : List Layer). outcomes_of s) c.self.view_is
