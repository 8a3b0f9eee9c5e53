use Rattle.std.proofs.Common.{◌≡◌}
use Rattle.asm_overlay.specs.Frames.{topmost}
use Rattle.asm_overlay.proofs.overlay.Overlay.get.Given as goal

-- the frames that are left show what all of them show
abbrev pub invariant-loop-frame : goal.invariant-loop-frame
invariant-loop-frame l = topmost l.frame-iterator.iter.rest.now l.at ≡ topmost l.self l.at
