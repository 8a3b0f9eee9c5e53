use Rattle.std.proofs.Common.{◌++◌, Some, refl, sym, ap, subst, ◌∙◌}
use Rattle.std.proofs.lemmas.Result.{err_from_is_err_and}
use Rattle.asm_audit.specs.declared.progress.Counts.{Counts}
use Rattle.asm_audit.specs.Fault.{part_fault, OpensMismatched, IsBehind, IsFaulty}
use Rattle.asm_audit.specs.Audited.{IsAudited}
use Rattle.asm_audit.proofs.Steps.{header_broken, header_right, header_mismatched}
use Rattle.asm_audit.proofs.Telling.{current_is, fault_judged}
use Rattle.asm_audit.proofs.progress.Progress.open.Goals as goal

pub returns-in_err-header-clause-answer : goal.returns-in_err-header-clause-answer
returns-in_err-header-clause-answer c =
    let r = err_from_is_err_and c.from_residual.result c.from_residual.ensures.1 in
    rw (r.1, r.2) (λ part text rest audited is.
    let p = c.args.self.now in
    let line = c.args.line.now in
    let h = c.in_err-header.ensures.err in
    let fault = h.1 ∙ ap (λ (w : Counts). part_fault w.parts h.0) c.all-before.ensures in
    subst (IsFaulty part (text ++ (line ++ rest))) (sym fault)
    (header_broken part text p.before p.current c.requires.between (current_is part text p p.current refl audited) line
    rest h.0 is h.2))

pub returns-in_err-header-clause-ended : goal.returns-in_err-header-clause-ended
returns-in_err-header-clause-ended c =
    let r = err_from_is_err_and c.from_residual.result c.from_residual.ensures.1 in
    let h = c.in_err-header.ensures.err in
    rw (r.1, r.2) (fault_judged c.args.line.now c.all-before.result.parts h.0 c.in_err-header.field-0.0 h.1)

pub returns-then-not-branch-clause-answer : goal.returns-then-not-branch-clause-answer
returns-then-not-branch-clause-answer c = λ part text rest audited is.
    let p = c.args.self.now in
    let line = c.args.line.now in
    let h = c.in_ok-header.ensures.ok in
    subst (λ (w : Counts). IsBehind part (text ++ (line ++ rest)) w.parts (OpensMismatched part)) (sym c.all-before.ensures)
    (header_mismatched part text p.before p.current c.requires.between (current_is part text p p.current refl audited) line
    c.in_ok-header.header h.0 h.1 h.2 h.3 c.in_ok-is_continued_by.field-0 c.in_ok-is_continued_by.ensures rest is
    c.if-not-branch.true)

pub returns-clause-answer : goal.returns-clause-answer
returns-clause-answer c = λ part text audited.
    let p = c.args.self.now in
    let line = c.args.line.now in
    let h = c.in_ok-header.ensures.ok in
    let o = c.in_ok-part in
    subst (λ (w : Counts). IsAudited part (text ++ line) (record { before = w; current = Some o.part })) (sym c.all-before.ensures)
    (header_right part text p.before p.current c.requires.between (current_is part text p p.current refl audited) line
    c.in_ok-header.header h.0 h.1 h.2 h.3 c.in_ok-is_continued_by.field-0 c.in_ok-is_continued_by.ensures o.part
    c.requires.line c.if-not-branch.false (o.ensures.number ∙ ap (λ (w : Counts). w.parts) c.all-before.ensures)
    o.ensures.limits o.ensures.taken (o.ensures.stands part))

pub returns-clause-ended : goal.returns-clause-ended
returns-clause-ended c = let h = c.in_ok-header.ensures.ok in (h.2.0, h.1, h.2.1)
