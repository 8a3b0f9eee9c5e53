use Rattle.std.proofs.Common.{◌≢◌, List, [], take}
use Rattle.std.specs.Prelude.{All}
use Rattle.asm_update.specs.Fire.{Part}
use Rattle.asm_update.specs.Move.{Move}
use Rattle.asm_update.specs.State.{State}
use Rattle.asm_state.specs.FollowsFrom.{FollowsFrom}
use Rattle.asm_storage.specs.Scans.{IsUnwritten}
use Rattle.asm_storage.proofs.part.scanning.first_overtaken.Given as goal

-- none of the scans so far was overtaken
abbrev pub invariant-loop-scan : goal.invariant-loop-scan
invariant-loop-scan l = (part : Part) (init : State) (q : List Move) → (l.scans ≢ [] → FollowsFrom part init l.state q) →
    All (IsUnwritten part init q) (take l.scan-index l.scans)
