use Rattle.std.proofs.Common.{◌≡◌, ◌≤◌, false, length}
use Rattle.asm_audit.specs.Limits.{line_limit}
use Rattle.asm_journal.specs.Reading.{HasNoLineFeed}
use Rattle.asm_driver.specs.Lines.{Takes, pending}
use Rattle.asm_driver.proofs.ports.line_reader.LineReader.read.Given as goal

-- the bytes of the line were taken, none of which is a line feed, and no read failed
abbrev pub invariant-bytes : goal.invariant-bytes
invariant-bytes g l = record {
  same_reference : g.S.Source.lender l.input ≡ g.S.Source.lender l.fn.input;
  noted : g.S.Source.failed l.input ≡ false;
  taken : Takes (g.S.Source.remaining l.fn.input) (g.S.Source.remaining l.input) (pending l.fn.self) (pending l.self)
      l.self.line.items;
  open_line : HasNoLineFeed l.self.line.items;
  short : length l.self.line.items ≤ line_limit;
}
