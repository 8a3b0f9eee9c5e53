use Rattle.std.proofs.Common.{◌≡◌, ◌≤◌, false, ℕ, List, []}
use Rattle.asm_driver.specs.Lines.{pending}
use Rattle.asm_driver.specs.Parts.{IsAt, HasSegments}
use Rattle.asm_driver.proofs.program.windowing.find_part.Given as goal

-- so many segments were passed, and no read failed
abbrev pub invariant-loop-number : goal.invariant-loop-number
invariant-loop-number g l = record {
  same_reference : g.S.Source.lender l.input ≡ g.S.Source.lender l.fn.input;
  noted : g.S.Source.failed l.input ≡ false;
  within : l.number ≤ l.wanted;
  text : List ℕ;
  at : IsAt (g.S.Source.remaining l.fn.input) (g.S.Source.remaining l.input) text (pending l.lines);
  has : HasSegments l.number text [];
}
