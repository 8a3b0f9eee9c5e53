use Rattle.std.proofs.Common.{◌-◌, ◌++◌, All, List, Err, Ok, length, ap, subst, ◌∙◌, arith}
use Rattle.std.proofs.lemmas.Result.{err_from_is_err_and}
use Rattle.asm_aggregate.proofs.Exits.{handed_on}
use Rattle.asm_step.specs.Layers.{Layer, IsSound, outcomes_of}
use Rattle.asm_step.specs.Next.{IsComposed, IsLayerFrom, IsOver, on_top}
use Rattle.asm_step.proofs.Stacked.{kept_within}
use Rattle.asm_step.proofs.Nexts.{next_answer, not_continued}
use Rattle.asm_step.proofs.step.Step.layer_over.Goals as goal

pub returns-in_err-composed : goal.returns-in_err-composed
returns-in_err-composed g c =
    let a = g.A.Aggregator.meaning c.args.aggregator.now in
    let s = c.args.self.now in
    let M = c.args.instructions.now in
    let U = c.args.frame in
    let p = err_from_is_err_and c.from_residual-in_err-composed.result c.from_residual-in_err-composed.ensures.1 in
    let sound = subst (λ (t : List Layer). All IsSound t) c.self.view_is c.self.invariant.1 in
    let S = c.in_ok-shared.shared in
    let composed = subst (λ o. IsComposed a o S (Err c.in_err-composed.field-0.0)) c.if_later.ensures c.in_err-composed.ensures in
    handed_on (λ r. IsOver a s M U (on_top s r)) c.from_residual-in_err-composed.result p.0 c.in_err-composed.field-0.0 p.1 p.2
    (not_continued (g.met.A.Aggregator.laws c.args.aggregator.now) s M c.in_ok-earlier.earlier S c.in_ok-shared.apart U sound c.requires
    c.in_ok-earlier.ensures c.in_ok-shared.ensures.shared c.in_ok-shared.ensures.apart c.proper.ensures c.proper-2.ensures
    c.within_limit.ensures c.in_err-composed.field-0.0 composed)

pub returns : goal.returns
returns g c =
    let a = g.A.Aggregator.meaning c.args.aggregator.now in
    let s = c.args.self.now in
    let M = c.args.instructions.now in
    let U = c.args.frame in
    let E = c.in_ok-earlier.earlier in
    let C = c.in_ok-composed.composed in
    let sound = subst (λ (t : List Layer). All IsSound t) c.self.view_is c.self.invariant.1 in
    let S = c.in_ok-shared.shared in
    let O = c.in_ok-shared.apart in
    let composed = subst (λ o. IsComposed a o S (Ok C)) c.if_later.ensures c.in_ok-composed.ensures in
    next_answer (g.met.A.Aggregator.laws c.args.aggregator.now) s M E S O U sound c.requires
    c.in_ok-earlier.ensures c.in_ok-shared.ensures.shared c.in_ok-shared.ensures.apart c.proper.ensures c.proper-2.ensures
    c.within_limit.ensures C composed c.count.result
    (c.count.ensures.count ∙ c.count.ensures.listed) c.layer_of.result
    (subst (λ k. IsLayerFrom s U (c.count.result - k) (C ++ O) M c.layer_of.result) c.len.ensures.len c.layer_of.ensures)

pub layer_of-requires : goal.layer_of-requires
layer_of-requires g c = omega (arith, c.count.ensures.count, c.count.ensures.few)

pub overflow_sub-others : goal.overflow_sub-others
overflow_sub-others g c =
    let within = kept_within (outcomes_of c.args.self.now) c.args.frame in
    let long = ap length c.in_ok-earlier.ensures in
    omega (arith, within, long, c.len.ensures.len, c.count.ensures.count, c.count.ensures.listed)
