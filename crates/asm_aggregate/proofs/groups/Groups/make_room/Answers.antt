use Rattle.std.proofs.Common.{take, subst}
use Rattle.asm_update.specs.Move.{Move}
use Rattle.asm_aggregate.specs.Bundle.{HaveRoom}
use Rattle.asm_aggregate.proofs.Grouped.{room_starts, room_more, taken_more}
use Rattle.asm_aggregate.proofs.groups.Groups.make_room.Goals as goal

pub loop-i-init : goal.loop-i-init
loop-i-init c = λ M are. room_starts M c.args.self.now are

pub loop-i-preserved : goal.loop-i-preserved
loop-i-preserved c = λ M are.
    subst (λ (N : Move). HaveRoom M N c.make_room_at.new.self)
    (taken_more c.args.instructions.now c.loop-i.i c.get.result.now c.get.ensures)
    (room_more M (take c.loop-i.i c.args.instructions.now) c.get.result.now c.loop-i.self c.make_room_at.new.self
    (c.loop-i.invariant M are) c.in_ok-make_room_at.ensures)
