use Rattle.std.proofs.Common.{rules, ◌≢◌, ◌+◌, [], ap, inl, inr}
use Rattle.std.proofs.lemmas.Result.{err_from_is_err_and}
use Rattle.asm_journal.specs.declared.error.JournalError.TheVariants.{Shape}
use Rattle.asm_journal.proofs.parsing.read_journal.Goals as goal

pub returns-in_err-events-clause-err : goal.returns-in_err-events-clause-err
returns-in_err-events-clause-err c =
    let p = err_from_is_err_and c.from_residual-in_err-events.result c.from_residual-in_err-events.ensures.1 in
    let h = c.in_ok-header.header in
    let line = c.in_ok-header.ensures.ok in
    let e = c.in_err-events.ensures.err in
    rw (p.1, p.2) (inr (line.0, c.in_ok-header.rest.now, h.limits.version, h.limits.agents, h.limits.capacity, h.limits.events, h.init, line.1, line.2, e.0, e.1, e.2, inl (e.3, e.4)))

pub returns-then-not-is_empty-clause-err : goal.returns-then-not-is_empty-clause-err
returns-then-not-is_empty-clause-err c =
    let h = c.in_ok-header.header in
    let line = c.in_ok-header.ensures.ok in
    let found = c.in_ok-events.ensures.ok in
    let some : c.in_ok-events.rest.now ≢ [] = search rules in
    inr (line.0, c.in_ok-header.rest.now, h.limits.version, h.limits.agents, h.limits.capacity, h.limits.events, h.init, line.1, line.2, c.in_ok-events.events.items, c.in_ok-events.rest.now, found.1, inr (found.0, some, ap (λ k. Shape (k + 2)) c.from.ensures))
