use Rattle.std.proofs.Common.{sym, ap, subst, ◌∙◌}
use Rattle.std.specs.Prelude.{unwrap_or, is_some}
use Rattle.std.specs.Option.{option_copied}
use Rattle.std.proofs.lemmas.Result.{err_from_is_err_and}
use Rattle.asm_element.specs.Bag as bag
use Rattle.asm_element.specs.Value.{undef}
use Rattle.asm_element.specs.declared.value.Value.TheVariants as values
use Rattle.asm_update.specs.Aggregator.{IsOutcome}
use Rattle.asm_aggregate.specs.BagMeaning.{bag_result}
use Rattle.asm_aggregate.proofs.BagTables.{IsOnBag, short_result, large_result, bag_answer, copied_some}
use Rattle.asm_aggregate.proofs.Exits.{handed_on}
use Rattle.asm_aggregate.proofs.bag_agg.BagAggAggregator.result.Goals as goal
use Rattle.asm_aggregate.proofs.bag_agg.BagAggAggregator.result.Goals.{In_ok-copy}

-- the group is on the bag that was copied
on_copy : (c : In_ok-copy) → IsOnBag (unwrap_or (option_copied c.args.old) undef) c.args.group.now.regular
    c.args.group.now.partials c.partials-partials.result.now c.in_ok-copy.field-0
on_copy c = record {
  same = c.partials-partials.ensures.partials;
  all = sym c.are_all_of.ensures ∙ c.if-not-are_all_of.false;
  base = sym c.base_of.ensures ∙ c.in-Some.ensures.some ∙ ap values.Bag (sym c.in_ok-copy.ensures);
  alone =
      ap is_some (sym c.regular.ensures) ∙ copied_some c.regular.result ∙ sym c.is_some.ensures ∙ c.if-is_some.false;
  proper = subst bag.IsProper (sym c.in_ok-copy.ensures) c.in-Some.ensures.proper;
}

pub returns-in_err-rest : goal.returns-in_err-rest
returns-in_err-rest c =
    let group = c.args.group.now in
    let outcome = bag_result (unwrap_or (option_copied c.args.old) undef) group.regular group.partials in
    let p = err_from_is_err_and c.from_residual-in_err-rest.result c.from_residual-in_err-rest.ensures.1 in
    handed_on (λ r. IsOutcome r outcome) c.from_residual-in_err-rest.result p.0 c.in_err-rest.field-0.0 p.1 p.2
    (short_result _ _ _ _ _ (on_copy ((goal.at.returns-in_err-rest c).In_ok-copy)) c.in_err-rest.field-0.0
    c.in_err-rest.ensures.err)

pub returns-in_err-with : goal.returns-in_err-with
returns-in_err-with c =
    let group = c.args.group.now in
    let outcome = bag_result (unwrap_or (option_copied c.args.old) undef) group.regular group.partials in
    let p = err_from_is_err_and c.from_residual-in_err-with.result c.from_residual-in_err-with.ensures.1 in
    handed_on (λ r. IsOutcome r outcome) c.from_residual-in_err-with.result p.0 c.in_err-with.field-0.0 p.1 p.2
    (large_result _ _ _ _ _ (on_copy ((goal.at.returns-in_err-with c).In_ok-copy)) c.in_ok-rest.rest
    c.in_ok-rest.ensures.ok c.in_err-with.field-0.0 c.in_err-with.ensures.err)

pub returns : goal.returns
returns c =
    bag_answer _ _ _ _ _ (on_copy ((goal.at.returns c).In_ok-copy)) c.in_ok-rest.rest c.in_ok-rest.ensures.ok
    c.in_ok-with.field-0 c.proper.ensures c.in_ok-with.ensures.ok
