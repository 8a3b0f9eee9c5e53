use Rattle.std.proofs.Common.{◌≡◌, false}
use Rattle.asm_driver.proofs.Foldering.{IsFileTakenTo}
use Rattle.asm_driver.proofs.program.segments.take_file.Given as goal

-- what was read was taken, what is due went out, and no call failed
abbrev pub invariant-chunks : goal.invariant-chunks
invariant-chunks g l = record {
  same_aggregator : l.reader.judge.auditor.auditor.aggregator ≡ l.fn.reader.judge.auditor.auditor.aggregator;
  same_files : g.F.Folder.files l.folder ≡ g.F.Folder.files l.fn.folder;
  same_output : g.K.Sink.lender l.output ≡ g.K.Sink.lender l.fn.output;
  read : g.F.Folder.failed l.folder ≡ false;
  written : g.K.Sink.failed l.output ≡ false;
  taken : IsFileTakenTo l.every l.fn.reader l.reader (g.F.Folder.remaining l.fn.folder) (g.F.Folder.remaining l.folder)
      (g.K.Sink.contents l.fn.output) (g.K.Sink.contents l.output);
}
