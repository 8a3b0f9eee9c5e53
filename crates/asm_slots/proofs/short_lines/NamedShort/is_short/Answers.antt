use Rattle.std.proofs.Common.{arith}
use Rattle.asm_journal.specs.Element.{location_json_of}
use Rattle.asm_journal.specs.Shape.{number_json_of}
use Rattle.asm_slots.proofs.LineRooms.{pair_is}
use Rattle.asm_slots.proofs.short_lines.NamedShort.is_short.Goals as goal

pub returns : goal.returns
returns c = λ short.
    let r = c.args.self.now in
    omega (arith, pair_is (location_json_of r.at) (number_json_of r.number), c.short_number.ensures, c.is_short.ensures short)
