use Rattle.std.proofs.Common.{◌≡◌, ◌++◌, map}
use Rattle.std.specs.List.{filter}
use Rattle.serde_json.specs.View.{view}
use Rattle.asm_journal.specs.Element.{element_json_of}
use Rattle.asm_trace.specs.Change.{is_missing}
use Rattle.asm_trace.proofs.sets.without_json.Given as goal

-- what is in the list, and what is left to come, is all that the second set hasn't
abbrev pub invariant-loop-element : goal.invariant-loop-element
invariant-loop-element l =
    map view l.list.items ++ map element_json_of (filter (is_missing l.second) l.element-iterator)
    ≡ map element_json_of (filter (is_missing l.second) l.initial.element-iterator)
