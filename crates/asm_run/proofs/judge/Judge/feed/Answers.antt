use Rattle.asm_run.proofs.Judged as judged
use Rattle.asm_run.proofs.judge.Judge.feed.Goals as goal

pub returns-in-Some-clause-judges : goal.returns-in-Some-clause-judges
returns-in-Some-clause-judges g c = λ text h.
    let part = (g.A.Aggregator.meaning c.args.self.now.auditor.auditor.aggregator).part in
    let old = c.args.self.now in
    judged.still part old.auditor.auditor.progress old.auditor.line.items text c.args.bytes.now old.fault _
    c.in-Some.is h

pub returns-clause-judges : goal.returns-clause-judges
returns-clause-judges g c = λ text h.
    let part = (g.A.Aggregator.meaning c.args.self.now.auditor.auditor.aggregator).part in
    let old = c.args.self.now in
    judged.feeds part old.auditor.auditor.progress old.auditor.line.items c.args.bytes.now _ _ c.feed-fed.result
    old.fault _ c.in-None.is c.err-self.ensures.value c.feed-fed.ensures.answer text h
