use Rattle.std.proofs.Common.{sym, subst}
use Rattle.std.proofs.lemmas.Result.{err_from_is_err_and}
use Rattle.std.specs.Result.{IfErr}
use Rattle.std.specs.Prelude.{Err}
use Rattle.asm_update.specs.Aggregator.{IsOutcome}
use Rattle.asm_aggregate.specs.BagMeaning.{tabled}
use Rattle.asm_aggregate.proofs.BagRecount.{IsPart, part_of, short_part, large_part, part_answer}
use Rattle.asm_aggregate.proofs.Exits.{handed_on}
use Rattle.asm_aggregate.proofs.bag_change.recount_of.Goals as goal
use Rattle.asm_aggregate.proofs.bag_change.recount_of.Goals.{In_ok-copy}

-- the copy is a part of the bag
on_copy : (c : In_ok-copy) → IsPart c.args.actions.now c.args.elements.now c.in_ok-copy.field-0
on_copy c =
    subst (IsPart c.args.actions.now c.args.elements.now) (sym c.in_ok-copy.ensures)
    (part_of c.args.actions.now c.args.elements.now _ c.in_ok-before.ensures)

pub returns-in_err-rest-clause-err : goal.returns-in_err-rest-clause-err
returns-in_err-rest-clause-err c =
    let p = err_from_is_err_and c.from_residual-in_err-rest.result c.from_residual-in_err-rest.ensures.1 in
    handed_on (λ r. IfErr r (λ e. IsOutcome (Err e) (tabled c.args.elements.now c.args.actions.now)))
    c.from_residual-in_err-rest.result p.0 c.in_err-rest.field-0.0 p.1 p.2
    (short_part _ _ _ (on_copy ((goal.at.returns-in_err-rest-clause-err c).In_ok-copy)) c.in_err-rest.field-0.0
    c.in_err-rest.ensures.err)

pub returns-in_err-after-clause-err : goal.returns-in_err-after-clause-err
returns-in_err-after-clause-err c =
    let p = err_from_is_err_and c.from_residual-in_err-after.result c.from_residual-in_err-after.ensures.1 in
    handed_on (λ r. IfErr r (λ e. IsOutcome (Err e) (tabled c.args.elements.now c.args.actions.now)))
    c.from_residual-in_err-after.result p.0 c.in_err-after.field-0.0 p.1 p.2
    (large_part _ _ _ (on_copy ((goal.at.returns-in_err-after-clause-err c).In_ok-copy)) c.in_ok-rest.rest
    c.in_ok-rest.ensures.ok c.counted.ensures c.in_err-after.field-0.0 c.in_err-after.ensures.err)

pub returns-clause-ok : goal.returns-clause-ok
returns-clause-ok c =
    part_answer _ _ _ (on_copy ((goal.at.returns-clause-ok c).In_ok-copy)) c.in_ok-rest.rest
    c.in_ok-rest.ensures.ok c.counted.ensures c.in_ok-after.after c.counted-2.ensures c.in_ok-after.ensures.ok
