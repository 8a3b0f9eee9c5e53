use Rattle.std.proofs.Common.{List, sym, subst, ◌∙◌}
use Rattle.asm_element.specs.Set as set
use Rattle.asm_update.specs.declared.action.Action.{Action}
use Rattle.asm_aggregate.specs.BagMeaning.{joined_amount}
use Rattle.asm_aggregate.specs.Steps.{AreActions}
use Rattle.asm_aggregate.proofs.BagTables.{joined_answer}
use Rattle.asm_aggregate.proofs.bag_agg.BagAggAggregator.join.Goals as goal

pub returns : goal.returns
returns c =
    let es = set.elements c.in_ok-elements.elements in
    joined_answer c.args.first.now c.args.second.now es _ (record {
      one = sym c.are_all_of.ensures ∙ c.if-not-are_all_of.false;
      other = sym c.are_all_of-else-not-are_all_of.ensures ∙ c.if-not-are_all_of-2.false;
    }) c.in_ok-elements.ensures
    (subst (λ (l : List Action). AreActions (joined_amount l c.args.second.now) es c.joined_actions.result)
    c.in_ok-first.ensures
    (subst (λ (l : List Action). AreActions (joined_amount c.in_ok-first.first l) es c.joined_actions.result)
    c.in_ok-second.ensures c.joined_actions.ensures))
