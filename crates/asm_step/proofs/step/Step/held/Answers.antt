use Rattle.std.proofs.Common.{◌≡◌, List, ap, sym, ◌∙◌, rules}
use Rattle.std.proofs.lemmas.List.{nil_from_length}
use Rattle.std.specs.FinMap as finite
use Rattle.std.specs.Option.{option_or}
use Rattle.asm_step.specs.Layers.{Layer, layers_on, outcomes_of}
use Rattle.asm_step.specs.declared.layer.OwnLayer.{OwnLayer}
use Rattle.asm_step.proofs.Prefixes.{held-push, held_none}
use Rattle.asm_step.proofs.step.Step.held.Goals as goal

pub loop-layer-init : goal.loop-layer-init
loop-layer-init c =
    let rest : c.into_iter-layer-iterator.result.iter.rest.now ≡ c.self.inside.layers.items = search rules in
    ap (λ (s : List OwnLayer). finite.get (outcomes_of (layers_on finite.empty s)) c.args.at.now) rest
    ∙ ap (λ (s : List Layer). finite.get (outcomes_of s) c.args.at.now) c.self.view_is

pub returns-in-Some-get : goal.returns-in-Some-get
returns-in-Some-get c =
    let at = c.args.at.now in
    let left = c.next.new.self.iter.rest.now in
    let on_top = ap (λ (s : List OwnLayer). finite.get (outcomes_of (layers_on finite.empty s)) at) c.in-Some.ensures.steps
    ∙ held-push left c.in-Some.layer.now at
    ∙ ap (λ x. option_or x (finite.get (outcomes_of (layers_on finite.empty left)) at)) (sym c.in-Some-get.ensures) in
    sym on_top ∙ c.loop-layer.invariant

pub loop-layer-preserved : goal.loop-layer-preserved
loop-layer-preserved c =
    let at = c.args.at.now in
    let left = c.next.new.self.iter.rest.now in
    let on_top = ap (λ (s : List OwnLayer). finite.get (outcomes_of (layers_on finite.empty s)) at) c.in-Some.ensures.steps
    ∙ held-push left c.in-Some.layer.now at
    ∙ ap (λ x. option_or x (finite.get (outcomes_of (layers_on finite.empty left)) at)) (sym c.in_default.ensures) in
    sym on_top ∙ c.loop-layer.invariant

pub returns : goal.returns
returns c =
    let at = c.args.at.now in
    sym (held_none at)
    ∙ sym (ap (λ (s : List OwnLayer). finite.get (outcomes_of (layers_on finite.empty s)) at)
    (nil_from_length c.loop-layer.layer-iterator.iter.rest.now c.in-None.ensures.steps.0))
    ∙ c.loop-layer.invariant
