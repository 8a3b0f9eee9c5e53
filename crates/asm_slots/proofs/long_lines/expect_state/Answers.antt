use Rattle.std.proofs.Common.{sym, map, ◌∙◌}
use Rattle.std.specs.FinMap as finite
use Rattle.asm_journal.specs.Value.{pair_json_of}
use Rattle.asm_slots.specs.LongLines.{counted_limit, spelled_list}
use Rattle.asm_slots.proofs.LineRooms.{answered, not_longer, room_found}
use Rattle.asm_slots.proofs.long_lines.expect_state.Goals as goal

pub returns-then-is_some : goal.returns-then-is_some
returns-then-is_some c =
    not_longer _ _ (room_found c.state_room.result _ _ (sym c.is_some.ensures ∙ c.if-is_some.true) c.state_room.ensures)

pub returns : goal.returns
returns c = rw c.expect_room.ensures (answered c.state_length.result counted_limit (spelled_list (map pair_json_of (finite.entries c.args.state.now))) c.state_length.ensures)
