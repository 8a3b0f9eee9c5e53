use Rattle.asm_audit.proofs.auditor.Auditor.counts.Goals as goal

pub returns : goal.returns
returns g c = c.counts.ensures (g.A.Aggregator.meaning c.args.self.now.aggregator).part
