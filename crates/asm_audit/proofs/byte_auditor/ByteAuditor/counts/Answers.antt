use Rattle.asm_audit.proofs.SoFar.{fed_counts}
use Rattle.asm_audit.proofs.byte_auditor.ByteAuditor.counts.Goals as goal

pub returns : goal.returns
returns g c =
    let self = c.args.self.now in
    fed_counts (g.A.Aggregator.meaning self.auditor.aggregator).part self.auditor.progress self.line.items c.counts.result
    c.counts.ensures
