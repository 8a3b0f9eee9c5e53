use Rattle.std.proofs.Common.{◌≡◌, false, string_bytes}
use Rattle.asm_driver.proofs.Tracing.{IsTracedTo}
use Rattle.asm_driver.proofs.program.tracing.write_trace.Given as goal

-- the events so far are noted, some of their lines went out, and no call failed
abbrev pub invariant-loop-index : goal.invariant-loop-index
invariant-loop-index g l = record {
  same_reference : g.K.Sink.lender l.output ≡ g.K.Sink.lender l.fn.output;
  unfailed : g.K.Sink.failed l.output ≡ false;
  traced : IsTracedTo l.history l.state (g.K.Sink.contents l.fn.output) (g.K.Sink.contents l.output) (string_bytes l.text) l.index;
}
