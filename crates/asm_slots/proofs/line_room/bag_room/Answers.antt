use Rattle.std.proofs.Common.{arith, codes, map}
use Rattle.asm_element.specs.Bag as bag
use Rattle.asm_journal.specs.Set.{count_json_of}
use Rattle.asm_slots.proofs.LineRooms.{more, one_short}
use Rattle.asm_slots.proofs.line_room.bag_room.Goals as goal

pub returns : goal.returns
returns c =
    more c.counts_room.result _ _ _ _ c.counts_room.ensures
    (omega (arith, one_short (codes "bag") (map count_json_of (bag.entries c.args.all.now)), c.in_ok-less.ensures))
