use Rattle.std.proofs.Common.{◌≡◌, ◌+◌, map}
use Rattle.asm_journal.specs.Value.{pair_json_of}
use Rattle.asm_slots.specs.LongLines.{spelled_list}
use Rattle.asm_slots.proofs.long_lines.state_length.Given as goal

abbrev pub invariant-loop-at : goal.invariant-loop-at
invariant-loop-at l =
    spelled_list (map pair_json_of l.initial.at-iterator) + l.left ≡ l.initial.left + spelled_list (map pair_json_of l.at-iterator)
