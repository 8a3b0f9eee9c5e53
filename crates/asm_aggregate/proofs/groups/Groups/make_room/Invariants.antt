use Rattle.std.proofs.Common.{take}
use Rattle.asm_update.specs.Move.{Move}
use Rattle.asm_aggregate.specs.Bundle.{AreGroups, HaveRoom}
use Rattle.asm_aggregate.proofs.groups.Groups.make_room.Given as goal

-- there is room at the locations of the instructions so far
abbrev pub invariant-loop-i : goal.invariant-loop-i
invariant-loop-i l = (M : Move) → AreGroups M l.fn.self → HaveRoom M (take l.i l.instructions) l.self
