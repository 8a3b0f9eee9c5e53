use Rattle.std.proofs.Common.{◌+◌, ◌≤◌, map}
use Rattle.std.specs.Prelude.{drop}
use Rattle.asm_element.specs.Datum.{depth}
use Rattle.asm_element.specs.View.{datum}
use Rattle.asm_journal.specs.Element.{element_json_of}
use Rattle.asm_slots.specs.LongLines.{spelled_list}
use Rattle.asm_slots.proofs.line_room.+element_room.Given as goal

-- how deep lists nest in the element
abbrev pub decreases-element_room : goal.decreases-element_room
decreases-element_room l = depth (datum l.element.now)

abbrev pub invariant-loop-item : goal.invariant-loop-item
invariant-loop-item l =
    spelled_list (map element_json_of l.item-items) + l.left
    ≤ l.initial.left + spelled_list (map element_json_of (drop l.item-index l.item-items))
