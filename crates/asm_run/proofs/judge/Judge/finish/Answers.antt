use Rattle.asm_run.proofs.Judged as judged
use Rattle.asm_run.proofs.judge.Judge.finish.Goals as goal

pub returns-in-Some-clause-verdict : goal.returns-in-Some-clause-verdict
returns-in-Some-clause-verdict g c = λ text h.
    let part = (g.A.Aggregator.meaning c.args.self.now.auditor.auditor.aggregator).part in
    let old = c.args.self.now in
    judged.faulty part old.auditor.auditor.progress old.auditor.line.items text old.fault c.in-Some.error c.in-Some.is
    h

pub returns-clause-verdict : goal.returns-clause-verdict
returns-clause-verdict g c = λ text h.
    let part = (g.A.Aggregator.meaning c.args.self.now.auditor.auditor.aggregator).part in
    let old = c.args.self.now in
    judged.open_end part old.auditor.auditor.progress old.auditor.line.items text old.fault c.finish.result
    c.in-None.is c.finish.ensures.answer h
