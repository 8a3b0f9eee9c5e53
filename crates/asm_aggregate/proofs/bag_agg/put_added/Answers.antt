use Rattle.std.proofs.Common.{◌+◌, if◌then◌else◌, ap, sym, ◌∙◌}
use Rattle.asm_element.specs.Bag.{count, set_count}
use Rattle.asm_aggregate.proofs.BagSteps.{large_here, put_counts}
use Rattle.asm_aggregate.proofs.bag_agg.put_added.Goals as goal

pub returns-then-not-branch-clause-err : goal.returns-then-not-branch-clause-err
returns-then-not-branch-clause-err c =
    large_here _ _ _ _ _ c.in-BagAdd.is c.get.ensures.value
    (λ fits. sym c.if-not-branch.true ∙ c.in_ok-checked_put-in-BagAdd.ensures.fits.1 fits)

pub returns-else-not-branch-clause-ok : goal.returns-else-not-branch-clause-ok
returns-else-not-branch-clause-ok c =
    let more = set_count c.args.bag.now c.in-BagAdd.element (count c.args.bag.now c.in-BagAdd.element + c.get.result) in
    put_counts _ _ _ _ _ _ c.in-BagAdd.is c.get.ensures.value
    (c.in_ok-checked_put-in-BagAdd.ensures.ok ∙ ap (λ put. if put then more else c.args.bag.now) c.if-not-branch.false)
