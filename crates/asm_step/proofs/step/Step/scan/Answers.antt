use Rattle.std.proofs.Common.{◌≡◌, ◌∷◌, [], ◌++◌, ◌+◌, List, take, ap, sym, ◌∙◌}
use Rattle.std.proofs.lemmas.List.{take_all, take_more}
use Rattle.asm_update.specs.State.{val}
use Rattle.asm_step.specs.Layers.{Layer, frames_of, layers_on, scanned}
use Rattle.asm_step.specs.declared.layer.OwnLayer.{OwnLayer}
use Rattle.asm_step.proofs.Insertions.{frame_in}
use Rattle.std.specs.FinMap as finite
use Rattle.asm_step.proofs.step.Step.scan.Goals as goal

pub loop-layer-preserved : goal.loop-layer-preserved
loop-layer-preserved c q =
    let items = c.deref-layer-items.result.now in
    let i = c.loop-layer.layer-index in
    let y = c.layer-item.result in
    let more : take (i + 1) items ≡ take i items ++ y ∷ [] =
    take_more items i y c.loop-layer-test.true ∙ ap (λ x. take i items ++ x ∷ []) (sym c.layer-item.is) in
    frame_in c.args.name.now (take i items) y c.args.below c.loop-layer.plain c.put_values.new.plain
    c.loop-layer.invariant c.in_ok-put_values.ensures q
    ∙ ap (λ (t : List OwnLayer). scanned (frames_of (layers_on finite.empty t)) (val c.args.below) c.args.name.now q) (sym more)

pub returns : goal.returns
returns c q =
    let items = c.deref-layer-items.result.now in
    c.loop-layer.invariant q
    ∙ ap (λ (t : List OwnLayer). scanned (frames_of (layers_on finite.empty t)) (val c.args.below) c.args.name.now q)
    (take_all c.loop-layer.layer-index items c.loop-layer-test.false ∙ c.deref-layer-items.ensures.value)
    ∙ ap (λ (s : List Layer). scanned (frames_of s) (val c.args.below) c.args.name.now q) c.self.view_is
