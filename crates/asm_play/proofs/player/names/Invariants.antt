use Rattle.std.proofs.Common.{◌≡◌, map, take}
use Rattle.asm_play.specs.StepEvents.{name_at}
use Rattle.asm_play.proofs.player.names.Given as goal

-- the locations so far are named
abbrev pub invariant-loop-i : goal.invariant-loop-i
invariant-loop-i l = l.names.items ≡ map (name_at l.reading.number) (take l.i l.reading.places)
