use Rattle.std.proofs.Common.{◌∙◌}
use Rattle.asm_slots.proofs.LineRooms.{left_as_seen}
use Rattle.asm_slots.proofs.long_lines.seen_length.Goals as goal

pub returns : goal.returns
returns g c =
    left_as_seen c.two_length.result (g.L.Lookup.value_at c.args.seen.now) c.args.at.now _ _ (c.in_ok-value.ensures ∙ c.get.ensures.value) c.two_length.ensures
