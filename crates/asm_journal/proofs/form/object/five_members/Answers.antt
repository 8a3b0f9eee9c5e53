use Rattle.asm_journal.proofs.Arrays.{same_members, behind, not_end, in_all, one_more, none_gives}
use Rattle.asm_journal.proofs.form.object.five_members.Goals as goal

pub returns-in_err-members-clause-none : goal.returns-in_err-members-clause-none
returns-in_err-members-clause-none c =
    none_gives c.from_residual.result _ (λ d1 d2 d3 d4 d5 is. c.in_err-members.ensures.none _ is)

pub returns-in_err-a-clause-none : goal.returns-in_err-a-clause-none
returns-in_err-a-clause-none c =
    none_gives c.from_residual-in_err-a.result _ (λ d1 d2 d3 d4 d5 is. c.in_err-a.ensures.none _ _ (same_members _ _ _ c.in_ok-members.ensures.some is))

pub returns-in_err-b-clause-none : goal.returns-in_err-b-clause-none
returns-in_err-b-clause-none c =
    none_gives c.from_residual-in_err-b.result _ (λ d1 d2 d3 d4 d5 is. c.in_err-b.ensures.none _ _ (behind _ _ _ _ _ _ c.in_ok-a.ensures.some (same_members _ _ _ c.in_ok-members.ensures.some is)))

pub returns-in_err-c-clause-none : goal.returns-in_err-c-clause-none
returns-in_err-c-clause-none c =
    none_gives c.from_residual-in_err-c.result _ (λ d1 d2 d3 d4 d5 is. c.in_err-c.ensures.none _ _ (behind _ _ _ _ _ _ c.in_ok-b.ensures.some (behind _ _ _ _ _ _ c.in_ok-a.ensures.some (same_members _ _ _ c.in_ok-members.ensures.some is))))

pub returns-in_err-d-clause-none : goal.returns-in_err-d-clause-none
returns-in_err-d-clause-none c =
    none_gives c.from_residual-in_err-d.result _ (λ d1 d2 d3 d4 d5 is. c.in_err-d.ensures.none _ _ (behind _ _ _ _ _ _ c.in_ok-c.ensures.some (behind _ _ _ _ _ _ c.in_ok-b.ensures.some (behind _ _ _ _ _ _ c.in_ok-a.ensures.some (same_members _ _ _ c.in_ok-members.ensures.some is)))))

pub returns-in_err-e-clause-none : goal.returns-in_err-e-clause-none
returns-in_err-e-clause-none c =
    none_gives c.from_residual-in_err-e.result _ (λ d1 d2 d3 d4 d5 is. c.in_err-e.ensures.none _ _ (behind _ _ _ _ _ _ c.in_ok-d.ensures.some (behind _ _ _ _ _ _ c.in_ok-c.ensures.some (behind _ _ _ _ _ _ c.in_ok-b.ensures.some (behind _ _ _ _ _ _ c.in_ok-a.ensures.some (same_members _ _ _ c.in_ok-members.ensures.some is))))))

pub returns-then-is_end-clause-some : goal.returns-then-is_end-clause-some
returns-then-is_end-clause-some c =
    in_all _ _ _ c.in_ok-members.ensures.some (one_more _ _ _ _ _ c.in_ok-a.ensures.some (one_more _ _ _ _ _ c.in_ok-b.ensures.some (one_more _ _ _ _ _ c.in_ok-c.ensures.some (one_more _ _ _ _ _ c.in_ok-d.ensures.some (one_more _ _ _ _ _ c.in_ok-e.ensures.some (c.is_end.ensures.0 c.if-is_end.true))))))

pub returns-else-is_end-clause-none : goal.returns-else-is_end-clause-none
returns-else-is_end-clause-none c =
    λ d1 d2 d3 d4 d5 is. not_end c.is_end.result c.is_end.ensures.1 c.if-is_end.false (behind _ _ _ _ _ _ c.in_ok-e.ensures.some (behind _ _ _ _ _ _ c.in_ok-d.ensures.some (behind _ _ _ _ _ _ c.in_ok-c.ensures.some (behind _ _ _ _ _ _ c.in_ok-b.ensures.some (behind _ _ _ _ _ _ c.in_ok-a.ensures.some (same_members _ _ _ c.in_ok-members.ensures.some is))))))
