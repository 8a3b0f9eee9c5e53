use Rattle.std.proofs.Common.{Some, arith, refl}
use Rattle.asm_journal.specs.Element.{location_json_of}
use Rattle.asm_journal.specs.Value.{value_json_of}
use Rattle.asm_slots.proofs.LineRooms.{left_both, pair_is}
use Rattle.asm_slots.proofs.long_lines.pair_length.Goals as goal

pub returns-in-None : goal.returns-in-None
returns-in-None c = omega (arith, c.in-None.ensures, pair_is (location_json_of c.args.at.now) (value_json_of c.args.value.now))

pub returns-in-Some : goal.returns-in-Some
returns-in-Some c =
    left_both c.two_length.result (Some c.in-Some.rest) c.in-Some.rest 2 _ _ _ refl c.in-Some.ensures c.two_length.ensures
    (omega (arith, pair_is (location_json_of c.args.at.now) (value_json_of c.args.value.now)))
