use Rattle.std.proofs.Common.{◌≡◌, ◌++◌, string_bytes}
use Rattle.std.specs.Prelude.{take}
use Rattle.std.specs.List.{flat_map, enumerate_from}
use Rattle.asm_driver.specs.Report.{agent_lines}
use Rattle.asm_driver.proofs.reporting.push_outcomes.Given as goal

abbrev pub invariant-loop-agent : goal.invariant-loop-agent
invariant-loop-agent l = string_bytes l.text ≡ string_bytes l.initial.text ++ flat_map agent_lines
    (enumerate_from 0 (take l.agent l.agents))
