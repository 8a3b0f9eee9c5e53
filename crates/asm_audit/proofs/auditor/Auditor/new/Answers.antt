use Rattle.asm_audit.proofs.auditor.Auditor.new.Goals as goal

pub returns-clause-audited : goal.returns-clause-audited
returns-clause-audited g c = c.new.ensures (g.A.Aggregator.meaning c.args.aggregator).part
