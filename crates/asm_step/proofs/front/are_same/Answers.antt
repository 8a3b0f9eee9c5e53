use Rattle.std.proofs.Common.{sym, ◌∙◌}
use Rattle.asm_element.proofs.Same.{same_list}
use Rattle.asm_update.specs.Action.{action_eq}
use Rattle.asm_update.specs.Equal.{action_eq-same}
use Rattle.asm_step.proofs.SetLists.{on_true}
use Rattle.asm_step.proofs.front.are_same.Goals as goal

pub returns : goal.returns
returns c =
    on_true c.eq.result (λ h. sym c.as_slice.ensures.value ∙ same_list action_eq (λ x y. (action_eq-same x y).0) _ _ (sym c.eq.ensures ∙ h))
