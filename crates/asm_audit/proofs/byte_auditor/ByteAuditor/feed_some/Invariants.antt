use Rattle.std.proofs.Common.{◌≡◌, ℕ, List, ◌++◌, length}
use Rattle.asm_audit.specs.Fed.{Feeds}
use Rattle.asm_audit.proofs.byte_auditor.ByteAuditor.feed_some.Given as goal

-- the bytes before the rest were taken
abbrev pub invariant-loop-rest : goal.invariant-loop-rest
invariant-loop-rest g l = record {
  done : List ℕ;
  all : done ++ l.rest ≡ l.bytes;
  same : l.self.auditor.aggregator ≡ l.fn.self.auditor.aggregator;
  taken : Feeds (g.A.Aggregator.meaning l.fn.self.auditor.aggregator).part done l.fn.self.auditor.progress
      l.fn.self.line.items l.self.auditor.progress l.self.line.items;
}

abbrev pub decreases-loop-rest : goal.decreases-loop-rest
decreases-loop-rest g l = length l.rest
