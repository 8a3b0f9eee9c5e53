use Rattle.std.proofs.Common.{[], subst}
use Rattle.asm_update.specs.State.{State}
use Rattle.asm_state.specs.FollowsFrom.{FollowsFrom}
use Rattle.asm_state.proofs.state.State.new.Goals as goal

pub returns : goal.returns
returns c = λ part.
    subst (λ (i : State). FollowsFrom part i c.over.result []) c.in_ok-base.ensures.ok (c.over.ensures part)
