use Rattle.asm_journal.proofs.Arrays.{same_members, behind, not_end, in_all, one_more, none_gives}
use Rattle.asm_journal.proofs.form.object.three_members.Goals as goal

pub returns-in_err-members-clause-none : goal.returns-in_err-members-clause-none
returns-in_err-members-clause-none c =
    none_gives c.from_residual.result _ (λ k l m is. c.in_err-members.ensures.none _ is)

pub returns-in_err-a-clause-none : goal.returns-in_err-a-clause-none
returns-in_err-a-clause-none c =
    none_gives c.from_residual-in_err-a.result _ (λ k l m is. c.in_err-a.ensures.none _ _ (same_members _ _ _ c.in_ok-members.ensures.some is))

pub returns-in_err-b-clause-none : goal.returns-in_err-b-clause-none
returns-in_err-b-clause-none c =
    none_gives c.from_residual-in_err-b.result _ (λ k l m is. c.in_err-b.ensures.none _ _ (behind _ _ _ _ _ _ c.in_ok-a.ensures.some (same_members _ _ _ c.in_ok-members.ensures.some is)))

pub returns-in_err-c-clause-none : goal.returns-in_err-c-clause-none
returns-in_err-c-clause-none c =
    none_gives c.from_residual-in_err-c.result _ (λ k l m is. c.in_err-c.ensures.none _ _ (behind _ _ _ _ _ _ c.in_ok-b.ensures.some (behind _ _ _ _ _ _ c.in_ok-a.ensures.some (same_members _ _ _ c.in_ok-members.ensures.some is))))

pub returns-then-is_end-clause-some : goal.returns-then-is_end-clause-some
returns-then-is_end-clause-some c =
    in_all _ _ _ c.in_ok-members.ensures.some (one_more _ _ _ _ _ c.in_ok-a.ensures.some (one_more _ _ _ _ _ c.in_ok-b.ensures.some (one_more _ _ _ _ _ c.in_ok-c.ensures.some (c.is_end.ensures.0 c.if-is_end.true))))

pub returns-else-is_end-clause-none : goal.returns-else-is_end-clause-none
returns-else-is_end-clause-none c =
    λ k l m is. not_end c.is_end.result c.is_end.ensures.1 c.if-is_end.false (behind _ _ _ _ _ _ c.in_ok-c.ensures.some (behind _ _ _ _ _ _ c.in_ok-b.ensures.some (behind _ _ _ _ _ _ c.in_ok-a.ensures.some (same_members _ _ _ c.in_ok-members.ensures.some is))))
