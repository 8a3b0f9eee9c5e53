use Rattle.std.proofs.Common.{◌≡◌, length, min}
use Rattle.std.specs.Prelude.{take}
use Rattle.asm_storage.specs.History.{fired_moves}
use Rattle.asm_storage.specs.Limits.{most_counted}
use Rattle.asm_storage.proofs.history.History.moves.Given as goal

-- the moves so far are counted
abbrev pub invariant-loop-event : goal.invariant-loop-event
invariant-loop-event l = l.count ≡ min (length (fired_moves (take l.event-index l.event-items))) most_counted
