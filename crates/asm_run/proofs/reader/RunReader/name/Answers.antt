use Rattle.std.proofs.Common.{[], refl, sym, ap, subst}
use Rattle.asm_run.specs.declared.trail.Trail.{Trail}
use Rattle.asm_run.specs.Name.{IsName}
use Rattle.asm_run.specs.Segment.{IsTaken}
use Rattle.asm_run.proofs.Trails as trails
use Rattle.asm_run.proofs.reader.RunReader.name.Goals as goal

pub returns-in_ok-begin_first-clause-ok : goal.returns-in_ok-begin_first-clause-ok
returns-in_ok-begin_first-clause-ok g c = λ skipped segments h.
    let part = (g.A.Aggregator.meaning c.args.self.now.judge.auditor.auditor.aggregator).part in
    let old = c.args.self.now in
    let n = c.in-Some.parsed in
    let new = c.begin_first.new.self in
    let is = c.in_ok-begin_first.ensures.ok in
    let end = ap (λ (t : Trail). t.end) is in
    trails.begun_first part old.trail new n old.judge.auditor.auditor.progress old.judge.auditor.line.items
    old.judge.fault skipped segments c.args.name.now c.if-self.true
    (ap (λ (t : Trail). t.place) is) (ap (λ (t : Trail). t.from) is) (ap (λ (t : Trail). t.since) is) end
    (ap (λ (t : Trail). t.counts) is)
    (subst (IsName c.args.name.now) (sym c.in_ok-begin_first.ensures.name) c.in-Some.ensures.some)
    (subst (λ e. IsTaken e new.segment []) (sym end) c.in_ok-begin_first.ensures.taken) h

pub returns-in_ok-begin_next-clause-ok : goal.returns-in_ok-begin_next-clause-ok
returns-in_ok-begin_next-clause-ok g c = λ skipped segments h.
    let part = (g.A.Aggregator.meaning c.args.self.now.judge.auditor.auditor.aggregator).part in
    let old = c.args.self.now in
    let new = c.begin_next.new.self in
    let is = c.in_ok-begin_next.ensures.ok in
    let end = ap (λ (t : Trail). t.end) is in
    trails.begun_next part old.trail new old.judge.auditor.auditor.progress old.judge.auditor.line.items
    old.judge.fault skipped segments c.args.name.now
    (ap (λ (t : Trail). t.place) is) (ap (λ (t : Trail). t.from) is) (ap (λ (t : Trail). t.since) is) end
    (ap (λ (t : Trail). t.counts) is)
    (subst (IsName c.args.name.now) (sym c.in_ok-begin_next.ensures.name) c.in-Some.ensures.some)
    (subst (λ e. IsTaken e new.segment []) (sym end) c.in_ok-begin_next.ensures.taken) h

pub returns-in-None-clause-error : goal.returns-in-None-clause-error
returns-in-None-clause-error g c = λ n first moves events is. c.in-None.ensures.none refl n first moves events is
