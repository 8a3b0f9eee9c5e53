use Rattle.std.proofs.Common.{Err, inl, subst}
use Rattle.std.proofs.lemmas.Result.{err_from_is_err_and}
use Rattle.asm_update.specs.Fire.{IsUpdateSet}
use Rattle.asm_overlay.specs.Frames.{OverView, seen_through}
use Rattle.asm_aggregate.proofs.Exits.{handed_on}
use Rattle.asm_step.specs.Layers.{frames_of}
use Rattle.asm_step.specs.Next.{IsFrame, IsNext, on_top}
use Rattle.asm_step.proofs.Continued.{has_updates}
use Rattle.asm_step.proofs.Nexts.{next_over}
use Rattle.asm_step.proofs.step.Step.later_layer.Goals as goal

pub returns-in_err-frame : goal.returns-in_err-frame
returns-in_err-frame g c =
    let a = g.A.Aggregator.meaning c.args.aggregator.now in
    let old = g.L.Lookup.value_at c.args.below.now in
    let s = c.args.self.now in
    let M = c.args.instructions.now in
    let p = err_from_is_err_and c.from_residual.result c.from_residual.ensures.1 in
    handed_on (λ r. IsNext a old s M (on_top s r)) c.from_residual.result p.0 c.in_err-frame.field-0.0 p.1 p.2
    (inl (subst (λ (o : OverView _). IsFrame a.part (seen_through o.frames (g.L.Lookup.value_at o.below)) M (Err c.in_err-frame.field-0.0))
    c.over.ensures c.in_err-frame.ensures))

pub layer_over-requires : goal.layer_over-requires
layer_over-requires g c =
    let a = g.A.Aggregator.meaning c.args.aggregator.now in
    let old = g.L.Lookup.value_at c.args.below.now in
    let M = c.args.instructions.now in
    let U = c.in_ok-frame.frame in
    has_updates a.part (seen_through (frames_of c.args.self.now) old) M U
    (subst (λ (o : OverView _). IsUpdateSet a.part (seen_through o.frames (g.L.Lookup.value_at o.below)) M U) c.over.ensures c.in_ok-frame.ensures)

pub returns : goal.returns
returns g c =
    let a = g.A.Aggregator.meaning c.args.aggregator.now in
    let old = g.L.Lookup.value_at c.args.below.now in
    let s = c.args.self.now in
    let M = c.args.instructions.now in
    let U = c.in_ok-frame.frame in
    next_over a old s M U
    (subst (λ (o : OverView _). IsUpdateSet a.part (seen_through o.frames (g.L.Lookup.value_at o.below)) M U) c.over.ensures c.in_ok-frame.ensures)
    (on_top s c.layer_over.result) c.layer_over.ensures
