use Rattle.asm_journal.proofs.Arrays.{same_members, behind, not_end, in_all, one_more, none_gives}
use Rattle.asm_journal.proofs.form.object.one_member.Goals as goal

pub returns-in_err-members-clause-none : goal.returns-in_err-members-clause-none
returns-in_err-members-clause-none c =
    none_gives c.from_residual.result _ (λ k is. c.in_err-members.ensures.none _ is)

pub returns-in_err-value-clause-none : goal.returns-in_err-value-clause-none
returns-in_err-value-clause-none c =
    none_gives c.from_residual-in_err-value.result _ (λ k is. c.in_err-value.ensures.none _ _ (same_members _ _ _ c.in_ok-members.ensures.some is))

pub returns-then-is_end-clause-some : goal.returns-then-is_end-clause-some
returns-then-is_end-clause-some c =
    in_all _ _ _ c.in_ok-members.ensures.some (one_more _ _ _ _ _ c.in_ok-value.ensures.some (c.is_end.ensures.0 c.if-is_end.true))

pub returns-else-is_end-clause-none : goal.returns-else-is_end-clause-none
returns-else-is_end-clause-none c =
    λ k is. not_end c.is_end.result c.is_end.ensures.1 c.if-is_end.false (behind _ _ _ _ _ _ c.in_ok-value.ensures.some (same_members _ _ _ c.in_ok-members.ensures.some is))
