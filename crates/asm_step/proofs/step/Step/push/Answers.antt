use Rattle.std.proofs.Common.{All, List, [], ◌∷◌, ◌++◌, Ok, length, length-append, sym, ap, ◌∙◌, subst, arith}
use Rattle.std.proofs.lemmas.Result.{err_from_is_err_and}
use Rattle.std.specs.Option.{option_map}
use Rattle.asm_aggregate.proofs.Exits.{handed_on}
use Rattle.asm_step.specs.Answer.{IsPushAnswerOn}
use Rattle.asm_step.specs.Layers.{Layer, IsSound, stacked_on, layers_on, one_move, one_move_of, outcomes_of, IsStepOf}
use Rattle.asm_step.proofs.Answered.{answered_ok, answered_on_err, answered_on_ok, step_push, shown_on_top}
use Rattle.asm_step.proofs.Layered.{top_of-push}
use Rattle.asm_step.proofs.Prefixes.{all_push, length-layers, on_layers}
use Rattle.std.specs.FinMap as finite
use Rattle.asm_step.proofs.step.Step.push.Goals as goal

pub returns-in_err-layer-clause-answer_on : goal.returns-in_err-layer-clause-answer_on
returns-in_err-layer-clause-answer_on g c groups B step proper has =
    let a = g.A.Aggregator.meaning c.args.aggregator.now in
    let old = g.L.Lookup.value_at c.args.below.now in
    let s = c.args.self.now in
    let M = c.args.instructions.now in
    let p = err_from_is_err_and c.from_residual.result c.from_residual.ensures.1 in
    handed_on (λ r. IsPushAnswerOn a.part B s s M r) c.from_residual.result p.0 c.in_err-layer.field-0.0 p.1 p.2
    (answered_on_err a old s groups M B step proper has c.in_err-layer.field-0.0 c.in_err-layer.ensures)

pub invariant_of-self-2 : goal.invariant_of-self-2
invariant_of-self-2 g c =
    let s = c.args.self.now in
    let y = stacked_on (outcomes_of s) c.in_ok-layer.layer in
    let is = on_layers c.self.inside.layers.items c.push.new.self.items c.in_ok-layer.layer s c.in_ok-push.ensures.items c.self.view_is in
    let sound = subst (λ (t : List Layer). All IsSound t) c.self.view_is c.self.invariant.1 in
    let more = ap length c.in_ok-push.ensures.items ∙ length-append c.self.inside.layers.items (c.in_ok-layer.layer ∷ []) in
    let same = sym (length-layers finite.empty c.self.inside.layers.items) ∙ ap (λ (t : List Layer). length t) c.self.view_is in (
      omega (arith, more, same, c.depth.ensures.value, c.if-depth-ge-FRAMES_LIMIT.false),
      subst (λ (t : List Layer). All IsSound t) (sym is) (all_push IsSound s y sound c.in_ok-layer.ensures.over.sound),
    )

pub returns-clause-step : goal.returns-clause-step
returns-clause-step g c groups step =
    let a = g.A.Aggregator.meaning c.args.aggregator.now in
    let old = g.L.Lookup.value_at c.args.below.now in
    let s = c.args.self.now in
    let M = c.args.instructions.now in
    let y = stacked_on (outcomes_of s) c.in_ok-layer.layer in
    let is = on_layers c.self.inside.layers.items c.push.new.self.items c.in_ok-layer.layer s c.in_ok-push.ensures.items c.self.view_is in
    subst (λ (t : List Layer). IsStepOf a.part old t (groups ++ (M ∷ []) ∷ [])) (sym is)
    (step_push a old s groups M y step c.in_ok-layer.ensures)

pub returns-clause-more : goal.returns-clause-more
returns-clause-more g c = (
  stacked_on (outcomes_of c.args.self.now) c.in_ok-layer.layer,
  on_layers c.self.inside.layers.items c.push.new.self.items c.in_ok-layer.layer c.args.self.now c.in_ok-push.ensures.items c.self.view_is,
)

pub returns-clause-answer : goal.returns-clause-answer
returns-clause-answer g c =
    let a = g.A.Aggregator.meaning c.args.aggregator.now in
    let old = g.L.Lookup.value_at c.args.below.now in
    let s = c.args.self.now in
    let y = stacked_on (outcomes_of s) c.in_ok-layer.layer in
    let is = on_layers c.self.inside.layers.items c.push.new.self.items c.in_ok-layer.layer s c.in_ok-push.ensures.items c.self.view_is in
    answered_ok a old s (layers_on finite.empty c.push.new.self.items) c.args.instructions.now y c.in_ok-layer.ensures
    (ap one_move is ∙ ap (option_map one_move_of) (top_of-push s y))

pub returns-clause-answer_on : goal.returns-clause-answer_on
returns-clause-answer_on g c groups B step proper has =
    let a = g.A.Aggregator.meaning c.args.aggregator.now in
    let old = g.L.Lookup.value_at c.args.below.now in
    let s = c.args.self.now in
    let M = c.args.instructions.now in
    let y = stacked_on (outcomes_of s) c.in_ok-layer.layer in
    let next = c.in_ok-layer.ensures in
    let is = on_layers c.self.inside.layers.items c.push.new.self.items c.in_ok-layer.layer s c.in_ok-push.ensures.items c.self.view_is in
    subst (λ (t : List Layer). IsPushAnswerOn a.part B s t M (Ok tt)) (sym is)
    (answered_on_ok a old s groups M B step proper has (s ++ y ∷ []) next.updates next.set
    (λ l. shown_on_top s y l ∙ next.over.written l))
