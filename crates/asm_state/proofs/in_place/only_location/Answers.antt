use Rattle.std.proofs.Common.{sym, ◌∙◌}
use Rattle.asm_state.proofs.InPlace.{not_one_change}
use Rattle.asm_state.proofs.in_place.only_location.Goals as goal

pub returns-else-are_changes_at-clause-none : goal.returns-else-are_changes_at-clause-none
returns-else-are_changes_at-clause-none c = λ none.
    not_one_change c.in_ok-first.first.now c.args.instructions.now (sym c.in_ok-first.ensures.value) (sym c.are_changes_at.ensures ∙ c.if-are_changes_at.false)
