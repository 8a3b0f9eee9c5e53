use Rattle.std.proofs.Common.{◌≡◌, IfSome}
use Rattle.asm_audit.proofs.Through.{IsReadTo}
use Rattle.asm_audit.proofs.reading.feed_input.Given as goal

-- what was read was fed
abbrev pub invariant-chunks : goal.invariant-chunks
invariant-chunks g l =
    (l.auditor.auditor.aggregator ≡ l.fn.auditor.auditor.aggregator)
    × IfSome (g.R.Read.remaining l.fn.input) (λ text. IsReadTo (g.A.Aggregator.meaning l.fn.auditor.auditor.aggregator).part text
    l.auditor.auditor.progress l.auditor.line.items (g.R.Read.remaining l.input))
