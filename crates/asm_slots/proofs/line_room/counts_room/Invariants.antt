use Rattle.std.proofs.Common.{◌+◌, ◌≤◌, map}
use Rattle.asm_journal.specs.Set.{count_json_of}
use Rattle.asm_slots.specs.LongLines.{spelled_list}
use Rattle.asm_slots.proofs.line_room.counts_room.Given as goal

abbrev pub invariant-loop-element : goal.invariant-loop-element
invariant-loop-element l =
    spelled_list (map count_json_of l.initial.element-iterator) + l.left ≤ l.initial.left + spelled_list (map count_json_of l.element-iterator)
