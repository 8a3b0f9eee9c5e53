use Rattle.std.proofs.Common.{◌≡◌, false, map, drop, string_bytes}
use Rattle.asm_driver.proofs.Folders.{IsFolderTo}
use Rattle.asm_driver.proofs.program.segments.take_segments.Given as goal

-- the names before this one were read, what is due went out, and no call failed
abbrev pub invariant-loop-name : goal.invariant-loop-name
invariant-loop-name g l = record {
  same_aggregator : l.reader.judge.auditor.auditor.aggregator ≡ l.fn.reader.judge.auditor.auditor.aggregator;
  same_files : g.F.Folder.files l.folder ≡ g.F.Folder.files l.fn.folder;
  same_output : g.K.Sink.lender l.output ≡ g.K.Sink.lender l.fn.output;
  read : g.F.Folder.failed l.folder ≡ false;
  written : g.K.Sink.failed l.output ≡ false;
  taken : IsFolderTo l.every (g.F.Folder.files l.fn.folder) (map string_bytes l.names)
      (map string_bytes (drop l.name-index l.names)) (g.K.Sink.contents l.fn.output) (g.K.Sink.contents l.output) l.reader;
}
