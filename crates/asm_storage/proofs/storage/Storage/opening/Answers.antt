use Rattle.std.proofs.Common.{[], ap, ◌∙◌, subst}
use Rattle.asm_update.specs.State.{State}
use Rattle.asm_state.specs.FollowsFrom.{FollowsFrom}
use Rattle.asm_storage.specs.Storage.{StorageView}
use Rattle.asm_storage.proofs.storage.Storage.opening.Goals as goal

pub returns : goal.returns
returns g c = λ part.
    let same = c.in_ok-init.ensures ∙ ap (λ (s : StorageView _). s.init) c.self.view_is in
    subst (λ (i : State). FollowsFrom part i c.over.result []) same (c.over.ensures part)
