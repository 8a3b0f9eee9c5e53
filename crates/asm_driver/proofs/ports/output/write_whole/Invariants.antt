use Rattle.std.proofs.Common.{◌≡◌, ℕ, false, List, ◌++◌, length}
use Rattle.std.specs.Io.KnownBytes.{Appends}
use Rattle.asm_driver.proofs.ports.output.write_whole.Given as goal

-- what went out stands before the rest, and no write failed
abbrev pub invariant-loop-rest : goal.invariant-loop-rest
invariant-loop-rest g l = record {
  done : List ℕ;
  whole : l.text ≡ done ++ l.rest;
  appended : Appends (g.K.Sink.contents l.initial.output) (g.K.Sink.contents l.output) done;
  same_reference : g.K.Sink.lender l.output ≡ g.K.Sink.lender l.initial.output;
  noted : g.K.Sink.failed l.output ≡ false;
}

abbrev pub decreases-loop-rest : goal.decreases-loop-rest
decreases-loop-rest g l = length l.rest
