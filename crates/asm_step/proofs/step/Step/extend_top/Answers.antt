use Rattle.std.proofs.Common.{◌≡◌, ◌≢◌, ◌≤◌, ◌++◌, ◌∷◌, [], All, List, length, length-append, rules, sym, ap, subst, ◌∙◌, arith}
use Rattle.std.specs.FinMap as finite
use Rattle.asm_element.specs.Tests.{on_err}
use Rattle.asm_step.specs.InTurn.{all_but_last}
use Rattle.asm_step.specs.Layers.{Layer, IsSound, layers_on}
use Rattle.asm_step.specs.declared.layer.OwnLayer.{OwnLayer}
use Rattle.asm_step.proofs.Prefixes.{all_push, extended_top, last_is, set_last, sound_behind, sound_items}
use Rattle.asm_step.proofs.step.Step.extend_top.Goals as goal

pub returns-clause-ok : goal.returns-clause-ok
returns-clause-ok c =
    let items = c.self.inside.layers.items in
    let n = c.len-last.result in
    let x = c.index_mut.result.now in
    let long : n ≡ length items = search rules in
    let some : items ≢ [] = λ none. c.requires.some (sym c.self.view_is ∙ ap (layers_on finite.empty) none) in
    ap (λ (s : List OwnLayer). layers_on finite.empty s) (set_last items n c.extend.new.self some long)
    ∙ extended_top (all_but_last items) items c.args.self.now x c.extend.new.self c.args.next c.self.view_is
    (last_is items n x some long c.index_mut.ensures.value) c.in_ok-extend.ensures.own
    (c.in_ok-extend.ensures.moves c.requires.one.0 c.requires.one.1 ∙ ap (λ Ms. x.moves ++ Ms) (sym c.requires.one.1))
    c.in_ok-extend.ensures.alone c.requires.later c.in_ok-extend.ensures.count

pub invariant_of-self-2 : goal.invariant_of-self-2
invariant_of-self-2 c =
    let items = c.self.inside.layers.items in
    let n = c.len-last.result in
    let x = c.index_mut.result.now in
    let long : n ≡ length items = search rules in
    let some : items ≢ [] = λ none. c.requires.some (sym c.self.view_is ∙ ap (layers_on finite.empty) none) in
    let set = set_last items n c.extend.new.self some long in
    let last = last_is items n x some long c.index_mut.ensures.value in
    let is = ap (λ (s : List OwnLayer). layers_on finite.empty s) set
    ∙ extended_top (all_but_last items) items c.args.self.now x c.extend.new.self c.args.next c.self.view_is
    last c.in_ok-extend.ensures.own
    (c.in_ok-extend.ensures.moves c.requires.one.0 c.requires.one.1 ∙ ap (λ Ms. x.moves ++ Ms) (sym c.requires.one.1))
    c.in_ok-extend.ensures.alone c.requires.later c.in_ok-extend.ensures.count in
    let same = ap length set ∙ length-append (all_but_last items) (c.extend.new.self ∷ []) in
    let had = ap length last ∙ length-append (all_but_last items) (x ∷ []) in (
      omega (arith, same, had, c.self.invariant.0),
      subst (λ (s : List Layer). All IsSound s) (sym is)
          (all_push IsSound (all_but_last c.args.self.now) _
          (sound_items c.args.self.now (subst (λ (s : List Layer). All IsSound s) c.self.view_is c.self.invariant.1))
          (sound_behind _ _ c.requires.sound)),
    )

pub invariant_of-self : goal.invariant_of-self
invariant_of-self c =
    let items = c.self.inside.layers.items in
    let n = c.len-last.result in
    let x = c.index_mut.result.now in
    let long : n ≡ length items = search rules in
    let some : items ≢ [] = λ none. c.requires.some (sym c.self.view_is ∙ ap (layers_on finite.empty) none) in
    let back = set_last items n c.extend.new.self some long ∙ ap (λ y. all_but_last items ++ y ∷ []) c.in_err-extend.ensures.err
    ∙ sym (last_is items n x some long c.index_mut.ensures.value) in
    subst (λ (s : List OwnLayer). (length s ≤ 64) × All IsSound (layers_on finite.empty s)) (sym back) c.self.invariant

pub returns-in_err-extend-clause-err : goal.returns-in_err-extend-clause-err
returns-in_err-extend-clause-err c =
    let items = c.self.inside.layers.items in
    let n = c.len-last.result in
    let x = c.index_mut.result.now in
    let long : n ≡ length items = search rules in
    let some : items ≢ [] = λ none. c.requires.some (sym c.self.view_is ∙ ap (layers_on finite.empty) none) in
    let back = set_last items n c.extend.new.self some long ∙ ap (λ y. all_but_last items ++ y ∷ []) c.in_err-extend.ensures.err
    ∙ sym (last_is items n x some long c.index_mut.ensures.value) in
    on_err c.from_residual.result (ap (layers_on finite.empty) back ∙ c.self.view_is)
