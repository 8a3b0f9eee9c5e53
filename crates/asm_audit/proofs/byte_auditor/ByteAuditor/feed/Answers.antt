use Rattle.asm_audit.proofs.Fed.{some_taken}
use Rattle.asm_audit.proofs.byte_auditor.ByteAuditor.feed.Goals as goal

pub returns-clause-taken : goal.returns-clause-taken
returns-clause-taken g c =
    some_taken (g.A.Aggregator.meaning c.args.self.now.auditor.aggregator).part c.args.bytes.now
    c.args.self.now.auditor.progress c.feed_some-fed.new.self.auditor.progress c.args.self.now.line.items
    c.feed_some-fed.new.self.line.items c.feed_some-fed.result.0 c.feed_some-fed.result.1 c.feed_some-fed.ensures.taken
