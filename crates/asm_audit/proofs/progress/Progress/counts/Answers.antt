use Rattle.std.proofs.Common.{Some, None, sym, subst}
use Rattle.asm_audit.specs.declared.progress.Counts.{Counts}
use Rattle.asm_audit.specs.SoFar.{HasCounts}
use Rattle.asm_audit.proofs.Steps.{between}
use Rattle.asm_audit.proofs.SoFar.{counts_between, counts_within}
use Rattle.asm_audit.proofs.Telling.{current_is, not_complete}
use Rattle.asm_audit.proofs.progress.Progress.counts.Goals as goal

pub returns-then-is_complete : goal.returns-then-is_complete
returns-then-is_complete c = λ part text audited.
    let p = c.args.self.now in
    let o = c.in-Some.part in
    subst (HasCounts part text) (sym c.with-all.ensures)
    (counts_between part text _ (Some o)
    (between part text p.before (Some o) (c.is_complete.ensures.0 c.if-is_complete.true)
    (current_is part text p (Some o) c.in-Some.is audited)))

pub returns-else-is_complete : goal.returns-else-is_complete
returns-else-is_complete c = λ part text audited.
    let p = c.args.self.now in
    let o = c.in-Some.part in
    subst (λ (w : Counts). HasCounts part text (record { calls = w.calls; moves = w.moves; parts = p.before.parts }))
    (sym c.with-all.ensures)
    (counts_within part text p.before o (current_is part text p (Some o) c.in-Some.is audited)
    (not_complete c.is_complete.result o.taken o.limits.events c.is_complete.ensures c.if-is_complete.false))

pub returns-in-None : goal.returns-in-None
returns-in-None c = λ part text audited.
    let p = c.args.self.now in
    counts_between part text p.before None
    (between part text p.before None tt (current_is part text p None c.in-None.is audited))
