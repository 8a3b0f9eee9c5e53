use Rattle.std.proofs.Common.{◌≡◌, ℕ, List, ◌++◌, length, string_bytes}
use Rattle.asm_driver.specs.Watch.{IsWatched}
use Rattle.asm_driver.proofs.program.watching.take_bytes.Given as goal

-- the bytes before the rest were taken
abbrev pub invariant-loop-rest : goal.invariant-loop-rest
invariant-loop-rest g l = record {
  done : List ℕ;
  all : done ++ l.rest ≡ l.bytes;
  same_aggregator : l.auditor.auditor.aggregator ≡ l.fn.auditor.auditor.aggregator;
  watched : (text before : List ℕ) →
      IsWatched l.every text l.fn.auditor.auditor.progress l.fn.auditor.line.items (before ++ string_bytes l.fn.lines) →
      IsWatched l.every (text ++ done) l.auditor.auditor.progress l.auditor.line.items (before ++ string_bytes l.lines);
}

abbrev pub decreases-loop-rest : goal.decreases-loop-rest
decreases-loop-rest g l = length l.rest
