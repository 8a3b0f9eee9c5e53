use Rattle.std.proofs.Common.{refl}
use Rattle.asm_run.proofs.Trails as trails
use Rattle.asm_run.proofs.reader.RunReader.skip.Goals as goal

pub returns-clause-ok : goal.returns-clause-ok
returns-clause-ok g c = λ skipped segments title text any h.
    let part = (g.A.Aggregator.meaning c.args.self.now.judge.auditor.auditor.aggregator).part in
    let old = c.args.self.now in
    trails.skipped_one part old.trail _ old.judge.auditor.auditor.progress old.judge.auditor.line.items
    old.judge.fault skipped segments title text any c.if-self-ne0.false c.if-self-ne0-2.false c.in-None.is refl
    refl refl refl refl h

pub returns-clause-none : goal.returns-clause-none
returns-clause-none g c = λ skipped segments title text h.
    let part = (g.A.Aggregator.meaning c.args.self.now.judge.auditor.auditor.aggregator).part in
    let old = c.args.self.now in
    trails.no_texts part old.trail skipped segments c.if-self-ne0.false h.before
