use Rattle.std.proofs.Common.{Err, subst}
use Rattle.asm_audit.specs.Text.{HasLineFeed}
use Rattle.asm_audit.specs.Audited.{IsLineAnswer, JudgesEnded}
use Rattle.asm_audit.proofs.Fed.{none_left, some_left, end_report, no_end, form_fault, cut_fault, open_fault}
use Rattle.asm_audit.proofs.byte_auditor.ByteAuditor.finish.Goals as goal

pub returns-clause-answer : goal.returns-clause-answer
returns-clause-answer g c =
    let part = (g.A.Aggregator.meaning c.args.self.now.auditor.aggregator).part in
    let old = c.args.self.now in
    let e = c.in-Err.error in
    let answer = subst (λ line. IsLineAnswer part line old.auditor.progress c.line.new.self.progress (Err e)) c.as_slice.ensures.value c.in-Err.ensures.answer in
    λ text fed. open_fault part text old.auditor.progress c.line.new.self.progress old.line.items e
    (some_left old.line.items old.line.len c.is_empty.result old.line.ok.0 c.is_empty.ensures c.if-is_empty.false) answer fed

pub returns-then-is_empty-clause-answer : goal.returns-then-is_empty-clause-answer
returns-then-is_empty-clause-answer g c =
    let old = c.args.self.now in
    end_report (g.A.Aggregator.meaning old.auditor.aggregator).part old.auditor.progress old.line.items c.finish.result
    (none_left old.line.items old.line.len c.is_empty.result old.line.ok.0 c.is_empty.ensures c.if-is_empty.true)
    c.finish.ensures.answer

pub returns-clause-form : goal.returns-clause-form
returns-clause-form g c =
    let old = c.args.self.now in
    let e = c.in-Err.error in
    form_fault old.line.items e (subst (λ line. JudgesEnded line (Err e)) c.as_slice.ensures.value c.in-Err.ensures.ended) old.open_line

pub returns-then-is_empty-clause-form : goal.returns-then-is_empty-clause-form
returns-then-is_empty-clause-form g c = cut_fault c.finish.result c.finish.ensures.cut

pub unreachable-requires : goal.unreachable-requires
unreachable-requires g c =
    let old = c.args.self.now in
    no_end old.line.items (subst HasLineFeed c.as_slice.ensures.value c.in-Ok.ensures.ended) old.open_line
