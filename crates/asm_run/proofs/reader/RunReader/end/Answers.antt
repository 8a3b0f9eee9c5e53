use Rattle.std.proofs.Common.{refl, sym, ap}
use Rattle.asm_run.specs.declared.trail.Trail.{Trail}
use Rattle.asm_run.proofs.Trails as trails
use Rattle.asm_run.proofs.reader.RunReader.end.Goals as goal

pub returns-in-Ok-clause-ok : goal.returns-in-Ok-clause-ok
returns-in-Ok-clause-ok g c = λ skipped segments title text h.
    let part = (g.A.Aggregator.meaning c.args.self.now.judge.auditor.auditor.aggregator).part in
    let old = c.args.self.now in
    let same = c.in-Ok.ensures.trail in
    trails.read_part part _ (ap (λ a. (g.A.Aggregator.meaning a).part) (sym c.in-Ok.ensures.aggregator)) _ _ _ _ _ _
    (trails.ended part old.trail _ old.judge.auditor.auditor.progress _ old.judge.auditor.line.items _ old.judge.fault
    _ skipped segments title text c.in-Ok.counts c.in-Ok.ensures.progress c.in-Ok.ensures.line
    c.in-Ok.ensures.fault refl
    (ap (λ (t : Trail). t.from) same) (ap (λ (t : Trail). t.since) same) c.in-Ok.ensures.next refl
    (c.in-Ok.ensures.ok skipped segments title text h) h)
