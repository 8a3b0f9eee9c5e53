use Rattle.std.proofs.Common.{Some}
use Rattle.std.proofs.lemmas.Result.{err_from_is_err_and}
use Rattle.asm_audit.proofs.Steps.{event_right}
use Rattle.asm_audit.proofs.Telling.{current_is, not_complete, not_taken, not_taken_judged, answer_is}
use Rattle.asm_audit.proofs.progress.Progress.line.Goals as goal

pub returns-then-is_complete-clause-answer : goal.returns-then-is_complete-clause-answer
returns-then-is_complete-clause-answer g c =
    let part = (g.A.Aggregator.meaning c.args.aggregator.now).part in
    answer_is part c.args.line.now c.args.self.now c.open.new.self (Some c.in-Some.part) c.open.result c.in-Some.is
    (c.open.ensures.answer part)

pub returns-in_err-take-in-Some-clause-answer : goal.returns-in_err-take-in-Some-clause-answer
returns-in_err-take-in-Some-clause-answer g c =
    let r = err_from_is_err_and c.from_residual.result c.from_residual.ensures.1 in
    let part = (g.A.Aggregator.meaning c.args.aggregator.now).part in
    let o = c.in-Some.part in
    rw (r.1, r.2) (λ text rest audited before.
    not_taken part c.args.line.now rest text c.args.self.now o c.in_err-take-in-Some.field-0.0 c.in-Some.is
    (not_complete c.is_complete.result o.taken o.limits.events c.is_complete.ensures c.if-is_complete.false)
    c.in_err-take-in-Some.ensures.err audited before)

pub returns-in_err-take-in-Some-clause-ended : goal.returns-in_err-take-in-Some-clause-ended
returns-in_err-take-in-Some-clause-ended g c =
    let r = err_from_is_err_and c.from_residual.result c.from_residual.ensures.1 in
    rw (r.1, r.2) (not_taken_judged (g.A.Aggregator.meaning c.args.aggregator.now).part c.args.line.now c.in-Some.part
    c.in_err-take-in-Some.field-0.0 c.in_err-take-in-Some.ensures.err)

pub returns-in_ok-take-in-Some-clause-answer : goal.returns-in_ok-take-in-Some-clause-answer
returns-in_ok-take-in-Some-clause-answer g c = λ text audited.
    let part = (g.A.Aggregator.meaning c.args.aggregator.now).part in
    let p = c.args.self.now in
    let o = c.in-Some.part in
    event_right part text p.before o (current_is part text p (Some o) c.in-Some.is audited) c.args.line.now
    c.in_ok-take-in-Some.field-0 c.take.new.self c.requires
    (not_complete c.is_complete.result o.taken o.limits.events c.is_complete.ensures c.if-is_complete.false)
    c.in_ok-take-in-Some.ensures.ok

pub returns-in-None-clause-answer : goal.returns-in-None-clause-answer
returns-in-None-clause-answer g c = c.open-in-None.ensures.answer (g.A.Aggregator.meaning c.args.aggregator.now).part
