use Rattle.std.proofs.Common.{◌≡◌, ◌≢◌, ◌∷◌, [], All, List, length, length-append, rules, sym, ap, subst, ◌∙◌, arith}
use Rattle.std.specs.Prelude.{IfOk, OnErr}
use Rattle.asm_element.specs.Value.{undef}
use Rattle.asm_update.specs.Fire.{Old}
use Rattle.asm_step.specs.Next.{IsStepExtendedInPlace}
use Rattle.asm_step.specs.InTurn.{all_but_last}
use Rattle.asm_step.specs.Layers.{Layer, IsSound, layers_on}
use Rattle.asm_step.specs.declared.layer.OwnLayer.{OwnLayer}
use Rattle.asm_step.proofs.Prefixes.{last_is, set_last}
use Rattle.asm_step.proofs.ExtendingInPlace.{step_gone_on, step_kept, step_sound}
use Rattle.std.specs.FinMap as finite
use Rattle.asm_step.proofs.step.Step.extend_in_place.Goals as goal

pub returns-clause-ok : goal.returns-clause-ok
returns-clause-ok g c =
    let items = c.self.inside.layers.items in
    let n = c.len-last.result in
    let x = c.index_mut.result.now in
    let long : n ≡ length items = search rules in
    let some : items ≢ [] = λ none. c.requires (sym c.self.view_is ∙ ap (layers_on finite.empty) none) in
    let a = g.A.Aggregator.meaning c.args.aggregator.now in
    subst (λ (s : List OwnLayer). IfOk c.extend_in_place.result
    (λ done. (old : Old) → IsStepExtendedInPlace a old c.args.self.now (layers_on finite.empty s) c.args.instructions.now done))
    (sym (set_last items n c.extend_in_place.new.self some long))
    (step_gone_on (g.met.A.Aggregator.laws c.args.aggregator.now) (all_but_last items) items c.args.self.now x c.extend_in_place.new.self
    c.args.instructions.now c.self.view_is (last_is items n x some long c.index_mut.ensures.value)
    (subst (λ (s : List Layer). All IsSound s) c.self.view_is c.self.invariant.1) c.extend_in_place.result c.extend_in_place.ensures.ok)

pub returns-clause-err : goal.returns-clause-err
returns-clause-err g c =
    let items = c.self.inside.layers.items in
    let n = c.len-last.result in
    let x = c.index_mut.result.now in
    let long : n ≡ length items = search rules in
    let some : items ≢ [] = λ none. c.requires (sym c.self.view_is ∙ ap (layers_on finite.empty) none) in
    subst (λ (s : List OwnLayer). OnErr c.extend_in_place.result (layers_on finite.empty s ≡ c.args.self.now))
    (sym (set_last items n c.extend_in_place.new.self some long))
    (step_kept (g.met.A.Aggregator.laws c.args.aggregator.now) (all_but_last items) items c.args.self.now x c.extend_in_place.new.self
    c.args.instructions.now c.self.view_is (last_is items n x some long c.index_mut.ensures.value)
    (subst (λ (s : List Layer). All IsSound s) c.self.view_is c.self.invariant.1) c.extend_in_place.result c.extend_in_place.ensures.err)

pub invariant_of-self : goal.invariant_of-self
invariant_of-self g c =
    let items = c.self.inside.layers.items in
    let n = c.len-last.result in
    let x = c.index_mut.result.now in
    let long : n ≡ length items = search rules in
    let some : items ≢ [] = λ none. c.requires (sym c.self.view_is ∙ ap (layers_on finite.empty) none) in
    let set = set_last items n c.extend_in_place.new.self some long in
    let last = last_is items n x some long c.index_mut.ensures.value in
    let same = ap length set ∙ length-append (all_but_last items) (c.extend_in_place.new.self ∷ []) in
    let had = ap length last ∙ length-append (all_but_last items) (x ∷ []) in (
      omega (arith, same, had, c.self.invariant.0),
      subst (λ (s : List OwnLayer). All IsSound (layers_on finite.empty s)) (sym set)
          (step_sound (g.met.A.Aggregator.laws c.args.aggregator.now) (all_but_last items) items c.args.self.now x c.extend_in_place.new.self
          c.args.instructions.now c.self.view_is last
          (subst (λ (s : List Layer). All IsSound s) c.self.view_is c.self.invariant.1) (λ _. undef) c.extend_in_place.result c.extend_in_place.ensures.ok
          c.extend_in_place.ensures.err),
    )
