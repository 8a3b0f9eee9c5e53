use Rattle.std.proofs.Common.{◌≡◌, List, false, take}
use Rattle.std.specs.Prelude.{All, string_bytes}
use Rattle.asm_element.specs.Place.{Place}
use Rattle.asm_update.specs.Fire.{Part}
use Rattle.asm_update.specs.Move.{Move}
use Rattle.asm_update.specs.State.{State}
use Rattle.asm_state.specs.FollowsFrom.{FollowsFrom}
use Rattle.asm_state.specs.Scans.{is_rewritten}
use Rattle.asm_transaction.proofs.standing.first_written_in.Given as goal

-- no location of the functions so far was written
abbrev pub invariant-loop-scan : goal.invariant-loop-scan
invariant-loop-scan l = (part : Part) (init : State) (q : List Move) → FollowsFrom part init l.state q →
    All (λ s. (j : Place) → is_rewritten part init q (string_bytes s.name) l.number j ≡ false) (take l.scan-index l.scans)
