use Rattle.std.proofs.Common.{◌+◌, drop, Some, sym, subst}
use Rattle.std.proofs.lemmas.Result.{err_from_is_err_and}
use Rattle.asm_overlay.specs.Frames.{Frames}
use Rattle.asm_aggregate.proofs.Exits.{handed_on}
use Rattle.asm_script.specs.Sequencing.{IsStepMove}
use Rattle.asm_script.proofs.Advancing.{AreSequenced, next_left, all_pushed, next_fault, frame_fault, compose_fault}
use Rattle.asm_script.proofs.Advancing.{one_more, last_fault, last_answer, one_longer}
use Rattle.asm_script.proofs.step.step_move.Goals as goal

pub returns-in_err-next : goal.returns-in_err-next
returns-in_err-next g c =
    let a = g.A.Aggregator.meaning c.args.aggregator.now in
    let old = g.L.Lookup.value_at c.args.reading.now in
    let played = next_left _ _ _ _ _ _ _ _ _ c.loop-block-test.true c.block-item.is c.loop-block.invariant.0 in
    let p = err_from_is_err_and c.from_residual.result c.from_residual.ensures.1 in
    handed_on (λ r. IsStepMove a old c.args.step.now r) c.from_residual.result p.0 c.in_err-next.field-0.0 p.1 p.2
    (next_fault _ _ _ _ _ _ _ _ played c.in_err-next.field-0.0 c.in_err-next.ensures)

pub returns-in_err-frame : goal.returns-in_err-frame
returns-in_err-frame g c =
    let a = g.A.Aggregator.meaning c.args.aggregator.now in
    let old = g.L.Lookup.value_at c.args.reading.now in
    let played = next_left _ _ _ _ _ _ _ _ _ c.loop-block-test.true c.block-item.is c.loop-block.invariant.0 in
    let p = err_from_is_err_and c.from_residual-in_err-frame.result c.from_residual-in_err-frame.ensures.1 in
    handed_on (λ r. IsStepMove a old c.args.step.now r) c.from_residual-in_err-frame.result p.0
    c.in_err-frame.field-0.0 p.1 p.2
    (frame_fault _ _ _ _ _ _ _ _ played c.in_ok-next.next c.in_ok-next.ensures c.in_err-frame.field-0.0
    c.in_err-frame.ensures)

pub returns-in_err-composed : goal.returns-in_err-composed
returns-in_err-composed g c =
    let a = g.A.Aggregator.meaning c.args.aggregator.now in
    let old = g.L.Lookup.value_at c.args.reading.now in
    let played = next_left _ _ _ _ _ _ _ _ _ c.loop-block-test.true c.block-item.is c.loop-block.invariant.0 in
    let p = err_from_is_err_and c.from_residual-in_err-composed.result c.from_residual-in_err-composed.ensures.1 in
    handed_on (λ r. IsStepMove a old c.args.step.now r) c.from_residual-in_err-composed.result p.0
    c.in_err-composed.field-0.0 p.1 p.2
    (compose_fault _ _ _ _ _ _ _ _ played c.in_ok-next.next c.in_ok-next.ensures c.in_ok-frame.frame
    c.in_ok-frame.ensures c.in_err-composed.field-0.0 c.in_err-composed.ensures)

pub loop-block-preserved : goal.loop-block-preserved
loop-block-preserved g c =
    let a = g.A.Aggregator.meaning c.args.aggregator.now in
    let old = g.L.Lookup.value_at c.args.reading.now in
    let played = next_left _ _ _ _ _ _ _ _ _ c.loop-block-test.true c.block-item.is c.loop-block.invariant.0 in
    let rest = drop (c.loop-block.block-index + 1) c.deref-block-items.result.now in
    let pushed = c.in_ok-push_frame.ensures.ok in
    let more = one_more _ _ _ _ _ _ _ _ played c.in_ok-next.next c.in_ok-next.ensures c.in_ok-frame.frame
    c.in_ok-frame.ensures c.in_ok-composed.composed c.in_ok-composed.ensures in (
      subst (λ (frames : Frames). AreSequenced a old c.args.step.now frames (Some c.in_ok-composed.composed) rest
          c.step.inside.last) (sym pushed) more,
      one_longer c.loop-block.overlay _ c.in_ok-frame.frame c.loop-block.block-index pushed c.loop-block.invariant.1,
    )

pub returns-in_err-last : goal.returns-in_err-last
returns-in_err-last g c =
    let a = g.A.Aggregator.meaning c.args.aggregator.now in
    let old = g.L.Lookup.value_at c.args.reading.now in
    let played = all_pushed _ _ _ _ _ _ _ _ c.loop-block-test.false c.loop-block.invariant.0 in
    let p = err_from_is_err_and c.from_residual-in_err-last.result c.from_residual-in_err-last.ensures.1 in
    handed_on (λ r. IsStepMove a old c.args.step.now r) c.from_residual-in_err-last.result p.0 c.in_err-last.field-0.0
    p.1 p.2
    (last_fault _ _ _ _ _ _ played c.in_err-last.field-0.0 c.in_err-last.ensures)

pub returns : goal.returns
returns g c =
    let played = all_pushed _ _ _ _ _ _ _ _ c.loop-block-test.false c.loop-block.invariant.0 in
    last_answer _ _ _ _ _ _ played c.in_ok-last.last c.in_ok-last.ensures c.extended-2.result c.extended-2.ensures
