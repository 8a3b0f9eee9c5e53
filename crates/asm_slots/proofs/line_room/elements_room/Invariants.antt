use Rattle.std.proofs.Common.{◌+◌, ◌≤◌, map}
use Rattle.asm_journal.specs.Element.{element_json_of}
use Rattle.asm_slots.specs.LongLines.{spelled_list}
use Rattle.asm_slots.proofs.line_room.elements_room.Given as goal

abbrev pub invariant-loop-element : goal.invariant-loop-element
invariant-loop-element l =
    spelled_list (map element_json_of l.initial.element-iterator) + l.left ≤ l.initial.left + spelled_list (map element_json_of l.element-iterator)
