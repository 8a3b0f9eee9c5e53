use Rattle.std.proofs.Common.{List, ℕ, ◌++◌, true, sym, subst}
use Rattle.std.proofs.lemmas.Result.{err_from_is_err_and}
use Rattle.asm_aggregate.specs.Standard.{standard_meaning}
use Rattle.asm_update.specs.Aggregator.{Meaning}
use Rattle.asm_audit.specs.PartAuditor.{IsJudged, IsNotTaken}
use Rattle.asm_driver.specs.Lines.{IsLineAt, pending}
use Rattle.asm_driver.specs.Parts.{IsAt, IsBadAlone, IsBadBehind}
use Rattle.asm_driver.proofs.PartLines.{part_long}
use Rattle.asm_driver.proofs.LinesTaken.{taken_on, unread_reported}
use Rattle.asm_driver.proofs.PartsRead.{event_reported, event_unread}
use Rattle.asm_driver.proofs.program.windowing.next_event.Goals as goal

pub returns-in_err-read-clause-reported : goal.returns-in_err-read-clause-reported
returns-in_err-read-clause-reported g c = λ number had text A es at read.
    let r = err_from_is_err_and c.from_residual.result c.from_residual.ensures.1 in
    let o = c.args.opened.now in
    rw (r.1, r.2) (unread_reported had (g.S.Source.remaining c.args.input.now) (g.S.Source.remaining c.read.new.input)
    (g.S.Source.failed c.read.new.input) text (pending c.args.lines.now) (pending c.read.new.self) c.read.new.self.line.items
    (IsBadBehind IsBadAlone number) c.in_err-read.field-0.0 at c.in_err-read.ensures.read (λ all. tt) (λ all. tt)
    (part_long number text o A es read))

pub returns-in_err-take-clause-reported : goal.returns-in_err-take-clause-reported
unfolding standard_meaning
returns-in_err-take-clause-reported g c = λ number had text A es at read.
    let r = err_from_is_err_and c.from_residual-in_err-take.result c.from_residual-in_err-take.ensures.1 in
    let is = c.in_ok-read.ensures.read in
    let left = g.S.Source.remaining c.read.new.input in
    let behind = pending c.read.new.self in
    let same = sym c.line.ensures in
    let old = c.args.opened.now in
    let e = c.in_err-take.field-0.0 in
    rw (r.1, r.2) (event_unread had left (g.S.Source.failed c.read.new.input) number text c.line.result.now behind old c.take.new.self A es
    (subst (λ (l : List ℕ). IsAt had left (text ++ l) behind) same
    (taken_on had (g.S.Source.remaining c.args.input.now) left text (pending c.args.lines.now) behind c.read.new.self.line.items at is.0))
    (subst (λ (l : List ℕ). IsLineAt left behind l) same is.1) is.2 read c.requires.some e
    (subst (λ (m : Meaning). IsNotTaken m.part c.line.result.now old e) c.script_aggregator.ensures c.in_err-take.ensures.err))

pub returns-clause-reported : goal.returns-clause-reported
unfolding standard_meaning
returns-clause-reported g c = λ number had text A es at read.
    let is = c.in_ok-read.ensures.read in
    let left = g.S.Source.remaining c.read.new.input in
    let behind = pending c.read.new.self in
    let same = sym c.line.ensures in
    let old = c.args.opened.now in
    let e = c.in_ok-take.field-0 in
    event_reported had left (g.S.Source.failed c.read.new.input) number text c.line.result.now behind old c.take.new.self A es
    (subst (λ (l : List ℕ). IsAt had left (text ++ l) behind) same
    (taken_on had (g.S.Source.remaining c.args.input.now) left text (pending c.args.lines.now) behind c.read.new.self.line.items at is.0))
    (subst (λ (l : List ℕ). IsLineAt left behind l) same is.1) is.2 read c.requires.some e
    (subst (λ (m : Meaning). IsJudged m.part c.line.result.now e old c.take.new.self true) c.script_aggregator.ensures
    c.in_ok-take.ensures.ok)
