use Rattle.asm_audit.proofs.auditor.Auditor.finish.Goals as goal

pub returns-clause-answer : goal.returns-clause-answer
returns-clause-answer g c = c.finish.ensures.answer (g.A.Aggregator.meaning c.args.self.now.aggregator).part
