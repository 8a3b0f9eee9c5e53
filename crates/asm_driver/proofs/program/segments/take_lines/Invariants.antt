use Rattle.std.proofs.Common.{◌≡◌, ℕ, List, ◌++◌, length, string_bytes}
use Rattle.asm_driver.specs.Segments.{IsTakenOn}
use Rattle.asm_driver.proofs.program.segments.take_lines.Given as goal

-- the bytes before the rest were taken
abbrev pub invariant-loop-rest : goal.invariant-loop-rest
invariant-loop-rest g l = record {
  done : List ℕ;
  all : done ++ l.rest ≡ l.bytes;
  same_aggregator : l.reader.judge.auditor.auditor.aggregator ≡ l.fn.reader.judge.auditor.auditor.aggregator;
  taken : IsTakenOn l.every l.fn.reader l.reader done (string_bytes l.fn.lines) (string_bytes l.lines);
}

abbrev pub decreases-loop-rest : goal.decreases-loop-rest
decreases-loop-rest g l = length l.rest
