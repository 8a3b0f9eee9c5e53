use Rattle.std.proofs.Common.{◌≡◌, ◌≤◌, false, ℕ, List, ◌++◌, string_bytes}
use Rattle.asm_update.specs.State.{State}
use Rattle.asm_storage.specs.declared.history.Event.{Event}
use Rattle.asm_driver.specs.Ports.{Known}
use Rattle.asm_driver.specs.Lines.{pending}
use Rattle.asm_driver.specs.Parts.{IsAt, IsPartRead}
use Rattle.asm_driver.proofs.Windows.{AreNotedTo}
use Rattle.asm_driver.proofs.program.windowing.note_calls.Given as goal

-- the events before this call were read, and those of the window noted
abbrev pub invariant-loop-call : goal.invariant-loop-call
invariant-loop-call g l = record {
  same_reference : g.S.Source.lender l.input ≡ g.S.Source.lender l.fn.input;
  noted : g.S.Source.failed l.input ≡ false;
  limits : l.opened.limits ≡ l.fn.opened.limits;
  taken : l.opened.taken ≡ l.call;
  within : l.call ≤ l.end;
  read : (part : ℕ) (had : Known) (before : List ℕ) (A : State) (es : List Event) →
      IsAt had (g.S.Source.remaining l.fn.input) before (pending l.fn.lines) →
      IsPartRead part before l.fn.opened A es →
      (more : List ℕ) × (shown : List Event) × IsAt had (g.S.Source.remaining l.input) more (pending l.lines)
      × IsPartRead part more l.opened A (es ++ shown)
      × AreNotedTo l.opened.limits.capacity A es shown l.noted (string_bytes l.fn.text) (string_bytes l.text);
}
