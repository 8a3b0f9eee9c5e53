use Rattle.std.proofs.Common.{refl, sym, ap}
use Rattle.asm_run.proofs.Trails as trails
use Rattle.asm_run.proofs.reader.RunReader.feed.Goals as goal

pub returns-clause-fed : goal.returns-clause-fed
returns-clause-fed g c = λ skipped segments title text h.
    let part = (g.A.Aggregator.meaning c.args.self.now.judge.auditor.auditor.aggregator).part in
    let old = c.args.self.now in
    trails.within_part part _ (ap (λ a. (g.A.Aggregator.meaning a).part)
    (sym c.feed-2.ensures.aggregator)) _ _ _ _ _ _ _ _
    (trails.fed part old.trail _ old.judge.auditor.auditor.progress _ old.judge.auditor.line.items _ old.judge.fault _
    skipped segments title text c.args.bytes.now refl refl refl refl refl c.feed.ensures.name
    (λ t. c.feed.ensures.taken old.trail.end text t) (λ all j. c.feed-2.ensures.judges all j) h)
