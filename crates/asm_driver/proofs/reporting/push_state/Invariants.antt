use Rattle.std.proofs.Common.{◌≡◌, ◌++◌, string_bytes}
use Rattle.std.specs.List.{flat_map}
use Rattle.asm_driver.specs.Report.{entry_line}
use Rattle.asm_driver.proofs.reporting.push_state.Given as goal

-- the lines so far, and those of what is left, are the state's
abbrev pub invariant-loop-location : goal.invariant-loop-location
invariant-loop-location l = string_bytes l.text ++ flat_map entry_line l.location-iterator ≡ string_bytes
    l.initial.text ++ flat_map entry_line l.initial.location-iterator
