use Rattle.std.proofs.Common.{◌≡◌, map, take, length}
use Rattle.std.specs.List.{filter, range_with_len}
use Rattle.serde_json.specs.View.{view}
use Rattle.asm_state.specs.View.{value_at}
use Rattle.asm_journal.specs.Shape.{number_json_of}
use Rattle.asm_trace.specs.Text.{is_other_at}
use Rattle.asm_trace.proofs.notes.positions_json.Given as goal

-- the first positions are told, where they differ
abbrev pub invariant-loop-i : goal.invariant-loop-i
invariant-loop-i l =
    let right = map (value_at l.state) l.places in
    map view l.list.items ≡ map number_json_of (filter (is_other_at l.given right) (take l.i (range_with_len 0 (length right))))
