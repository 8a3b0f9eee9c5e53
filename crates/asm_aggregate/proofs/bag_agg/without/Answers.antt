use Rattle.std.proofs.lemmas.Result.{err_from_is_err_and}
use Rattle.std.specs.Result.{IfErr}
use Rattle.asm_element.specs.Bag.{count}
use Rattle.asm_aggregate.specs.BagMeaning.{amount, amount_in}
use Rattle.asm_aggregate.specs.Steps.{IsShort}
use Rattle.asm_aggregate.specs.declared.side.Side.TheVariants.{Removed}
use Rattle.asm_aggregate.proofs.BagSteps.{changed_none, changed_all, taken_more, short_on_the_way}
use Rattle.asm_aggregate.proofs.Exits.{handed_on, short_error}
use Rattle.asm_aggregate.proofs.bag_agg.without.Goals as goal

pub loop-action-init : goal.loop-action-init
loop-action-init c = changed_none Removed _

pub loop-action-preserved : goal.loop-action-preserved
loop-action-preserved c =
    taken_more _ _ _ _ _ _ (record { within = c.loop-action-test.true; read = c.action-item.is })
    c.in_ok-take_removed.ensures.ok c.loop-action.invariant

pub returns-in_err-take_removed-clause-err : goal.returns-in_err-take_removed-clause-err
returns-in_err-take_removed-clause-err c =
    let gone = amount_in Removed c.args.actions.now in
    let p = err_from_is_err_and c.from_residual.result c.from_residual.ensures.1 in
    handed_on (λ r. IfErr r (IsShort (count c.args.bag) gone)) c.from_residual.result p.0
    c.in_err-take_removed.field-0.0
    p.1 p.2
    (short_error (count c.loop-action.bag) (λ e. amount Removed e c.action-item.result) (count c.args.bag) gone
    c.in_err-take_removed.field-0.0
    (short_on_the_way _ _ _ _ _ (record { within = c.loop-action-test.true; read = c.action-item.is })
    c.loop-action.invariant) c.in_err-take_removed.ensures.err)

pub returns-clause-ok : goal.returns-clause-ok
returns-clause-ok c = changed_all Removed _ _ _ _ c.loop-action-test.false c.loop-action.invariant
