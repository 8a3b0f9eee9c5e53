use Rattle.std.proofs.Common.{◌≡◌, ◌≤◌, false, ℕ, List, []}
use Rattle.asm_update.specs.State.{State}
use Rattle.asm_storage.specs.declared.history.Event.{Event}
use Rattle.asm_driver.specs.Ports.{Known}
use Rattle.asm_driver.specs.Lines.{pending}
use Rattle.asm_driver.specs.Parts.{IsAt, IsPartRead}
use Rattle.asm_driver.proofs.program.windowing.pass.Given as goal

-- so many events of the same part were read, and no read failed
abbrev pub invariant-loop : goal.invariant-loop
invariant-loop g l = record {
  same_reference : g.S.Source.lender l.input ≡ g.S.Source.lender l.fn.input;
  noted : g.S.Source.failed l.input ≡ false;
  number : l.opened.number ≡ l.fn.opened.number;
  limits : l.opened.limits ≡ l.fn.opened.limits;
  taken : l.opened.taken ≡ l.counter;
  within : l.counter ≤ l.calls;
  read : (part : ℕ) (had : Known) (text : List ℕ) (A : State) → IsAt had (g.S.Source.remaining l.fn.input) text (pending l.fn.lines) →
      IsPartRead part text l.fn.opened A [] →
      (more : List ℕ) × (es : List Event) × IsAt had (g.S.Source.remaining l.input) more (pending l.lines)
      × IsPartRead part more l.opened A es;
}
