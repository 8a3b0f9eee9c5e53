use Rattle.std.proofs.Common.{◌≡◌, List, false, take}
use Rattle.std.specs.Prelude.{All}
use Rattle.asm_update.specs.Fire.{Part}
use Rattle.asm_update.specs.Move.{Move}
use Rattle.asm_update.specs.State.{State}
use Rattle.asm_state.specs.FollowsFrom.{FollowsFrom, is_stale}
use Rattle.asm_transaction.proofs.standing.first_written.Given as goal

-- none of the reads so far is stale
abbrev pub invariant-loop-read : goal.invariant-loop-read
invariant-loop-read l = (part : Part) (init : State) (q : List Move) → FollowsFrom part init l.state q →
    All (λ r. is_stale part init q r.at l.number ≡ false) (take l.read-index l.reads)
