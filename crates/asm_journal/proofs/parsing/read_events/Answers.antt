use Rattle.std.proofs.Common.{◌+◌, ap, sym, subst, ◌∙◌, arith}
use Rattle.std.proofs.lemmas.List.{length_push}
use Rattle.std.proofs.lemmas.Result.{err_from_is_err_and}
use Rattle.asm_journal.specs.Fault.{BreaksEvent}
use Rattle.asm_journal.proofs.Lines.{HasEvents-push}
use Rattle.asm_journal.proofs.parsing.read_events.Goals as goal

pub returns-in_err-event-clause-err : goal.returns-in_err-event-clause-err
returns-in_err-event-clause-err c =
    let p = err_from_is_err_and c.from_residual.result c.from_residual.ensures.1 in
    let l = c.loop-index in
    let breaks = subst (λ k. BreaksEvent c.args.limits.version c.args.limits.agents (k + 2) l.rest.now c.in_err-event.field-0.0) (c.from.ensures ∙ sym l.invariant.0) c.in_err-event.ensures.err in
    rw (p.1, p.2) (l.events.items, l.rest.now, l.invariant.1, omega arith, breaks)

pub returns-in_err-push-clause-err : goal.returns-in_err-push-clause-err
returns-in_err-push-clause-err c =
    let p = err_from_is_err_and c.from_residual-in_err-push.result c.from_residual-in_err-push.ensures.1 in
    let l = c.loop-index in
    rw (p.1, p.2) (l.events.items, l.rest.now, l.invariant.1, omega arith, tt)

pub loop-index-preserved : goal.loop-index-preserved
loop-index-preserved c =
    let l = c.loop-index in
    let e = c.in_ok-event.ensures.ok in
    rw c.in_ok-push.ensures.items (length_push l.events.items _ ∙ ap (λ n. n + 1) l.invariant.0, HasEvents-push c.args.limits.version c.args.limits.agents c.args.text.now l.events.items l.rest.now e.0 c.in_ok-event.event c.in_ok-event.after.now l.invariant.1 e.1 e.2)
