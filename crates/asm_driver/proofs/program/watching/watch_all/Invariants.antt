use Rattle.std.proofs.Common.{◌≡◌, false}
use Rattle.asm_driver.proofs.Watching.{IsWatchedTo}
use Rattle.asm_driver.proofs.program.watching.watch_all.Given as goal

-- what was read was fed, what is told of it went out, and no call failed
abbrev pub invariant-chunks : goal.invariant-chunks
invariant-chunks g l = record {
  same_aggregator : l.auditor.auditor.aggregator ≡ l.fn.auditor.auditor.aggregator;
  same_input : g.S.Source.lender l.input ≡ g.S.Source.lender l.fn.input;
  same_output : g.K.Sink.lender l.output ≡ g.K.Sink.lender l.fn.output;
  read : g.S.Source.failed l.input ≡ false;
  written : g.K.Sink.failed l.output ≡ false;
  watched : IsWatchedTo l.every (g.S.Source.remaining l.fn.input) (g.S.Source.remaining l.input)
      (g.K.Sink.contents l.fn.output) (g.K.Sink.contents l.output) l.auditor.auditor.progress l.auditor.line.items;
}
