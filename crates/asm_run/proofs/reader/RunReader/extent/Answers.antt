use Rattle.asm_run.proofs.Trails as trails
use Rattle.asm_run.proofs.reader.RunReader.extent.Goals as goal

pub returns-then-self : goal.returns-then-self
returns-then-self g c = λ skipped segments w.
    let part = (g.A.Aggregator.meaning c.args.self.now.judge.auditor.auditor.aggregator).part in
    let old = c.args.self.now in
    trails.extent_none part old.trail c.none.result skipped segments c.if-self.true c.none.ensures.first
    c.none.ensures.end w
