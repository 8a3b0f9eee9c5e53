use Rattle.std.proofs.Common.{◌+◌}
use Rattle.std.proofs.lemmas.Result.{err_from_is_err_and}
use Rattle.std.specs.Result.{IfErr}
use Rattle.asm_element.specs.Bag.{count}
use Rattle.asm_aggregate.specs.BagMeaning.{amount, amount_in}
use Rattle.asm_aggregate.specs.Steps.{IsAbove}
use Rattle.asm_aggregate.specs.declared.side.Side.TheVariants.{Added}
use Rattle.asm_aggregate.proofs.BagSteps.{changed_none, changed_all, put_more, large_on_the_way}
use Rattle.asm_aggregate.proofs.Exits.{handed_on, above_error}
use Rattle.asm_aggregate.proofs.bag_agg.with.Goals as goal

pub loop-action-init : goal.loop-action-init
loop-action-init c = changed_none Added _

pub loop-action-preserved : goal.loop-action-preserved
loop-action-preserved c =
    put_more _ _ _ _ _ _ (record { within = c.loop-action-test.true; read = c.action-item.is })
    c.in_ok-put_added.ensures.ok c.loop-action.invariant

pub returns-in_err-put_added-clause-err : goal.returns-in_err-put_added-clause-err
returns-in_err-put_added-clause-err c =
    let come = amount_in Added c.args.actions.now in
    let p = err_from_is_err_and c.from_residual.result c.from_residual.ensures.1 in
    handed_on (λ r. IfErr r (IsAbove (λ e. count c.args.bag e + come e))) c.from_residual.result p.0
    c.in_err-put_added.field-0.0 p.1 p.2
    (above_error (λ e. count c.loop-action.bag e + amount Added e c.action-item.result)
    (λ e. count c.args.bag e + come e) c.in_err-put_added.field-0.0
    (large_on_the_way _ _ _ _ _ (record { within = c.loop-action-test.true; read = c.action-item.is })
    c.loop-action.invariant) c.in_err-put_added.ensures.err)

pub returns-clause-ok : goal.returns-clause-ok
returns-clause-ok c = changed_all Added _ _ _ _ c.loop-action-test.false c.loop-action.invariant
