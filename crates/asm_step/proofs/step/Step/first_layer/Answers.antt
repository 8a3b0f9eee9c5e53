use Rattle.std.proofs.Common.{◌++◌, All, List, subst}
use Rattle.std.proofs.lemmas.Bool.{OnTrue_at}
use Rattle.std.proofs.lemmas.Result.{err_from_is_err_and}
use Rattle.asm_aggregate.proofs.Exits.{handed_on}
use Rattle.asm_update.specs.Fire.{IsUpdateSet}
use Rattle.asm_update.specs.Move.{Move}
use Rattle.asm_overlay.specs.Frames.{OverView, seen_through}
use Rattle.asm_step.specs.Layers.{Layer, IsSound}
use Rattle.asm_step.specs.Next.{IsLayerFrom, IsNext, on_top}
use Rattle.asm_step.proofs.FirstLayers.{change_answer, change_refused, first_answer, puts_answer}
use Rattle.asm_step.proofs.step.Step.first_layer.Goals as goal

pub returns-then-are_puts : goal.returns-then-are_puts
returns-then-are_puts g c =
    let old = g.L.Lookup.value_at c.args.below.now in
    let sound = subst (λ (t : List Layer). All IsSound t) c.self.view_is c.self.invariant.1 in
    puts_answer (g.met.A.Aggregator.laws c.args.aggregator.now) old c.args.self.now c.args.instructions.now sound c.requires
    c.within_limit.ensures (OnTrue_at c.if-are_puts.true c.are_puts.ensures) c.in_ok-puts_layer.field-0 c.in_ok-puts_layer.ensures

pub returns-in_err-value : goal.returns-in_err-value
returns-in_err-value g c =
    let a = g.A.Aggregator.meaning c.args.aggregator.now in
    let old = g.L.Lookup.value_at c.args.below.now in
    let s = c.args.self.now in
    let M = c.args.instructions.now in
    let sound = subst (λ (t : List Layer). All IsSound t) c.self.view_is c.self.invariant.1 in
    let p = err_from_is_err_and c.from_residual-in_err-value.result c.from_residual-in_err-value.ensures.1 in
    handed_on (λ r. IsNext a old s M (on_top s r)) c.from_residual-in_err-value.result p.0 c.in_err-value.field-0.0 p.1 p.2
    (change_refused (g.met.A.Aggregator.laws c.args.aggregator.now) old s M sound c.requires c.within_limit.ensures
    c.in-Some.one.now c.in-Some.ensures.only c.in-Some.ensures.partial c.in_err-value.field-0.0 c.in_err-value.ensures)

pub returns-in-Some : goal.returns-in-Some
returns-in-Some g c =
    let old = g.L.Lookup.value_at c.args.below.now in
    let sound = subst (λ (t : List Layer). All IsSound t) c.self.view_is c.self.invariant.1 in
    change_answer (g.met.A.Aggregator.laws c.args.aggregator.now) old c.args.self.now c.args.instructions.now sound c.requires
    c.within_limit.ensures c.in-Some.one.now c.in-Some.ensures.only c.in-Some.ensures.partial c.in_ok-value.value
    c.in_ok-value.ensures c.in_ok-change_layer.field-0 c.in_ok-change_layer.ensures

pub returns : goal.returns
returns g c =
    let a = g.A.Aggregator.meaning c.args.aggregator.now in
    let old = g.L.Lookup.value_at c.args.below.now in
    let s = c.args.self.now in
    let M = c.args.instructions.now in
    let U = c.in_ok-updates.updates in
    let sound = subst (λ (t : List Layer). All IsSound t) c.self.view_is c.self.invariant.1 in
    let set = subst (λ (o : OverView _). IsUpdateSet a.part (seen_through o.frames (g.L.Lookup.value_at o.below)) M U)
    c.over.ensures c.in_ok-updates.ensures in
    first_answer (g.met.A.Aggregator.laws c.args.aggregator.now) old s M sound c.requires c.within_limit.ensures U set c.layer_of.result
    (subst (λ (N : Move). IsLayerFrom s U 0 (N ++ M) M c.layer_of.result) c.new-none.ensures c.layer_of.ensures)
