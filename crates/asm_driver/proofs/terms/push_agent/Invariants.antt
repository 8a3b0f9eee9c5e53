use Rattle.std.proofs.Common.{◌≡◌, ◌++◌, ℕ, List, string_bytes}
use Rattle.std.specs.Prelude.{take}
use Rattle.asm_driver.specs.Report.{AreTermLines}
use Rattle.asm_driver.proofs.terms.push_agent.Given as goal

abbrev pub invariant-loop-reported : goal.invariant-loop-reported
invariant-loop-reported l =
    (added : List ℕ) × AreTermLines l.agent (take l.reported-index l.steps) added
    × (string_bytes l.text ≡ string_bytes l.initial.text ++ added)
