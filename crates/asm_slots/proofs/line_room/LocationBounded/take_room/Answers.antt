use Rattle.asm_slots.proofs.LineRooms.{place_room}
use Rattle.asm_slots.proofs.line_room.LocationBounded.take_room.Goals as goal

pub returns : goal.returns
returns c =
    place_room c.items_room.result c.args.self.now c.name-name.result.now c.args-behind.result.now _ _ _
    c.name-name.ensures.name c.args-behind.ensures.args c.in_ok-less.ensures c.in_ok-left.ensures c.items_room.ensures
