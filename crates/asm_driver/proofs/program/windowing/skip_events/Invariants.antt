use Rattle.std.proofs.Common.{◌≡◌, ◌≤◌, false, ℕ, List}
use Rattle.asm_journal.specs.declared.parsing.Header.{Header}
use Rattle.asm_driver.specs.Ports.{Known}
use Rattle.asm_driver.specs.Lines.{pending}
use Rattle.asm_driver.specs.Parts.{IsAt, IsSkipping}
use Rattle.asm_driver.proofs.program.windowing.skip_events.Given as goal

-- so many lines were passed, and no read failed
abbrev pub invariant-loop : goal.invariant-loop
invariant-loop g l = record {
  same_reference : g.S.Source.lender l.input ≡ g.S.Source.lender l.fn.input;
  noted : g.S.Source.failed l.input ≡ false;
  within : l.counter ≤ l.events;
  passed : (had : Known) (number : ℕ) (h : Header) (text : List ℕ) →
      IsAt had (g.S.Source.remaining l.fn.input) text (pending l.fn.lines) → IsSkipping number h 0 text →
      (more : List ℕ) × IsAt had (g.S.Source.remaining l.input) more (pending l.lines) × IsSkipping number h l.counter more;
}
