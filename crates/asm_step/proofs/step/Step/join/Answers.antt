use Rattle.std.proofs.Common.{◌∷◌, ◌∙◌, [], All, List, length, length-append, arith, ap, subst, sym}
use Rattle.std.specs.FinMap as finite
use Rattle.asm_step.specs.InTurn.{all_but_last}
use Rattle.asm_step.specs.Layers.{IsSound, Layer, moves_of, outcomes_of, stacked_on}
use Rattle.asm_step.proofs.ExtendedMoves.{move_extended, later_alone}
use Rattle.asm_step.proofs.Prefixes.{all_push, length-layers, on_layers}
use Rattle.asm_step.proofs.step.Step.join.Goals as goal

pub extend_top-requires-clause-some : goal.extend_top-requires-clause-some
extend_top-requires-clause-some g c none =
    let no = ap (λ (s : List Layer). length s) none in omega (arith, c.if-depth-eq0.false, c.depth.ensures.value, no)

pub extend_top-requires-clause-later : goal.extend_top-requires-clause-later
extend_top-requires-clause-later g c =
    later_alone c.args.self.now c.args.instructions.now _ (λ none.
    let no = ap (λ (s : List Layer). length s) none in omega (arith, c.if-depth-eq0.false, c.depth.ensures.value, no))
    c.in-Ok.ensures.alone

pub invariant_of-self-then-depth-eq0 : goal.invariant_of-self-then-depth-eq0
invariant_of-self-then-depth-eq0 g c =
    let s = c.args.self.now in
    let items = c.self.inside.layers.items in
    let y = stacked_on (outcomes_of s) c.in-Ok.next in
    let is = on_layers items c.push.new.self.items c.in-Ok.next s c.in_ok-push.ensures.items c.self.view_is in
    let sound = subst (λ (t : List Layer). All IsSound t) c.self.view_is c.self.invariant.1 in
    let more = ap length c.in_ok-push.ensures.items ∙ length-append items (c.in-Ok.next ∷ []) in
    let same = sym (length-layers finite.empty items) ∙ ap (λ (t : List Layer). length t) c.self.view_is in (
      omega (arith, more, same, c.depth.ensures.value, c.if-depth-eq0.true),
      subst (λ (t : List Layer). All IsSound t) (sym is) (all_push IsSound s y sound c.in-Ok.ensures.sound),
    )

pub returns-then-depth-eq0-clause-ok : goal.returns-then-depth-eq0-clause-ok
returns-then-depth-eq0-clause-ok g c =
    let a = g.A.Aggregator.meaning c.args.aggregator.now in
    let s = c.args.self.now in
    move_extended a s _ s [] c.args.instructions.now c.in_ok-values.values (stacked_on (outcomes_of s) c.in-Ok.next) c.in-Ok.ensures
    (on_layers c.self.inside.layers.items c.push.new.self.items c.in-Ok.next s c.in_ok-push.ensures.items c.self.view_is)

pub returns-clause-ok : goal.returns-clause-ok
returns-clause-ok g c =
    let a = g.A.Aggregator.meaning c.args.aggregator.now in
    let s = c.args.self.now in
    move_extended a s c.extend_top.new.self (all_but_last s) (moves_of s) c.args.instructions.now c.in_ok-values.values
    (stacked_on (outcomes_of s) c.in-Ok.next) c.in-Ok.ensures c.in_ok-extend_top.ensures.ok
