use Rattle.std.proofs.Common.{Some, sym, subst}
use Rattle.asm_audit.specs.Fault.{IsFaulty}
use Rattle.asm_audit.specs.Audited.{IsWhole}
use Rattle.asm_audit.proofs.Steps.{ended_whole, ended_cut}
use Rattle.asm_audit.proofs.Telling.{current_is, not_complete}
use Rattle.asm_audit.proofs.progress.Progress.finish.Goals as goal

pub returns-then-is_complete-clause-answer : goal.returns-then-is_complete-clause-answer
returns-then-is_complete-clause-answer c = λ part text audited.
    let p = c.args.self.now in
    let o = c.in-Some.part in
    subst (IsWhole part text) (sym c.with.ensures)
    (ended_whole part text p.before o (c.is_complete.ensures.0 c.if-is_complete.true)
    (current_is part text p (Some o) c.in-Some.is audited))

pub returns-else-is_complete-clause-answer : goal.returns-else-is_complete-clause-answer
returns-else-is_complete-clause-answer c = λ part text audited.
    let p = c.args.self.now in
    let o = c.in-Some.part in
    subst (IsFaulty part text) (sym c.part_fault.ensures)
    (ended_cut part text p.before o
    (not_complete c.is_complete.result o.taken o.limits.events c.is_complete.ensures c.if-is_complete.false)
    (current_is part text p (Some o) c.in-Some.is audited))
