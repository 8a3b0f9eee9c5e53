use Rattle.std.proofs.Common.{sym, map, ◌∙◌}
use Rattle.asm_slots.specs.LongLines.{counted_limit, spelled_values}
use Rattle.asm_slots.proofs.LineRooms.{answered, not_longer, room_found}
use Rattle.asm_slots.proofs.long_lines.expect_read.Goals as goal

pub returns-then-is_some : goal.returns-then-is_some
returns-then-is_some g c =
    not_longer _ _ (room_found c.values_room.result _ _ (sym c.is_some.ensures ∙ c.if-is_some.true) c.values_room.ensures)

pub returns : goal.returns
returns g c = rw c.expect_room.ensures (answered c.values_length.result counted_limit (spelled_values (g.L.Lookup.value_at c.args.seen.now) (map g.P.HasPlace.place_of c.args.places.now)) c.values_length.ensures)
