use Rattle.std.proofs.Common.{◌≡◌, rules, All, List, [], ◌∷◌, ◌++◌, length, length-append, refl, sym, ap, ◌∙◌, subst, arith, Ok, Some}
use Rattle.asm_overlay.specs.Frames.{under}
use Rattle.asm_step.specs.Layers.{Layer, IsSound, IsStepOf, frames_of, stacked_on, layers_on, outcomes_of}
use Rattle.asm_step.proofs.Layered.{layers_last, layers_split, no_last, last_fires}
use Rattle.asm_step.proofs.Prefixes.{all_before, on_layers}
use Rattle.std.specs.FinMap as finite
use Rattle.asm_step.proofs.step.Step.pop.Goals as goal

pub returns-clause-less : goal.returns-clause-less
returns-clause-less c =
    let left = c.pop.new.self.items in
    let now = layers_on finite.empty left in (
      stacked_on (outcomes_of now) c.in-Some.layer,
      sym c.self.view_is ∙ on_layers left c.self.inside.layers.items c.in-Some.layer now c.in-Some.ensures.items refl,
      refl,
    )

pub returns-clause-step : goal.returns-clause-step
returns-clause-step c part old groups group step =
    let left = c.pop.new.self.items in
    let now = layers_on finite.empty left in
    let y = stacked_on (outcomes_of now) c.in-Some.layer in
    let is = sym c.self.view_is ∙ on_layers left c.self.inside.layers.items c.in-Some.layer now c.in-Some.ensures.items refl in
    let split = subst (λ (t : List Layer). IsStepOf part old t (groups ++ group ∷ [])) is step in
    (ap Some (layers_last part old [] groups now group y split), layers_split part old [] groups now group y split)

pub returns-clause-fires : goal.returns-clause-fires
returns-clause-fires c part old groups group B step has =
    let left = c.pop.new.self.items in
    let now = layers_on finite.empty left in
    let y = stacked_on (outcomes_of now) c.in-Some.layer in
    let is = sym c.self.view_is ∙ on_layers left c.self.inside.layers.items c.in-Some.layer now c.in-Some.ensures.items refl in
    last_fires part old now groups group y B (subst (λ (t : List Layer). IsStepOf part old t (groups ++ group ∷ [])) is step) has
    ∙ ap (λ (t : List Layer). Ok (under B (frames_of t))) (sym is)

pub returns-in_default-clause-step : goal.returns-in_default-clause-step
returns-in_default-clause-step c part old groups group step =
    let none : c.args.self.now ≡ [] = search rules in
    no_last part old [] groups group (subst (λ (t : List Layer). IsStepOf part old t (groups ++ group ∷ [])) none step)

pub returns-in_default-clause-fires : goal.returns-in_default-clause-fires
returns-in_default-clause-fires c part old groups group B step has =
    let none : c.args.self.now ≡ [] = search rules in
    no_last part old [] groups group (subst (λ (t : List Layer). IsStepOf part old t (groups ++ group ∷ [])) none step)

pub invariant_of-self-2 : goal.invariant_of-self-2
invariant_of-self-2 c =
    let left = c.pop.new.self.items in
    let now = layers_on finite.empty left in
    let is = on_layers left c.self.inside.layers.items c.in-Some.layer now c.in-Some.ensures.items refl in
    let less = ap length c.in-Some.ensures.items ∙ length-append left (c.in-Some.layer ∷ []) in (
      omega (arith, less, c.self.invariant.0),
      all_before IsSound now (stacked_on (outcomes_of now) c.in-Some.layer)
          (subst (λ (t : List Layer). All IsSound t) is c.self.invariant.1),
    )
