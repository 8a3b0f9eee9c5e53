use Rattle.std.proofs.Common.{◌++◌, ◌∷◌, [], if◌then◌else◌, ap, ◌∙◌}
use Rattle.asm_element.specs.Tests.{true_from_not, false_from_not}
use Rattle.asm_aggregate.proofs.SetSteps.{put_again, put_first, put_taken}
use Rattle.asm_aggregate.proofs.set_agg.put_noting.Goals as goal

pub returns-then-not-branch-clause-besides : goal.returns-then-not-branch-clause-besides
returns-then-not-branch-clause-besides c =
    put_again _ _ _ c.args.element _ c.in_ok-copy.ensures c.in_ok-insert.ensures.ok
    (true_from_not _ _ c.in_ok-insert.ensures.added c.if-not-branch.true)

pub returns-then-is_err-clause-besides : goal.returns-then-is_err-clause-besides
returns-then-is_err-clause-besides c =
    put_taken _ _ _ c.args.element _ c.in_ok-copy.ensures c.in_ok-insert.ensures.ok _ _
    (false_from_not _ _ c.in_ok-insert.ensures.added c.if-not-branch.false) c.remove.ensures.new
    (c.push.ensures.items
    ∙ ap (λ ok. if ok then c.args.fresh.now.items ++ c.args.element ∷ [] else c.args.fresh.now.items)
    c.if-is_err.ensures.negation)

pub returns-clause-besides : goal.returns-clause-besides
returns-clause-besides c =
    put_first _ _ _ c.args.element _ c.in_ok-copy.ensures c.in_ok-insert.ensures.ok _
    (false_from_not _ _ c.in_ok-insert.ensures.added c.if-not-branch.false)
    (c.push.ensures.items
    ∙ ap (λ ok. if ok then c.args.fresh.now.items ++ c.args.element ∷ [] else c.args.fresh.now.items)
    c.if-is_err.ensures.negation)
