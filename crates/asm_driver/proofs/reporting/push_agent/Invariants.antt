use Rattle.std.proofs.Common.{◌≡◌, ◌++◌, string_bytes}
use Rattle.std.specs.Prelude.{take}
use Rattle.std.specs.List.{flat_map, enumerate_from}
use Rattle.asm_driver.specs.Report.{outcome_line}
use Rattle.asm_driver.proofs.reporting.push_agent.Given as goal

abbrev pub invariant-loop-step : goal.invariant-loop-step
invariant-loop-step l = string_bytes l.text ≡ string_bytes l.initial.text ++ flat_map
    (λ s. outcome_line l.agent s.0 s.1) (enumerate_from 0 (take l.step l.outcomes))
