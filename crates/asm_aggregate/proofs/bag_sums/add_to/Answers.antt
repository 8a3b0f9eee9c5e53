use Rattle.std.proofs.Common.{ap, sym, subst, ◌∙◌, unwrap_or}
use Rattle.std.specs.Option.{option_copied}
use Rattle.asm_aggregate.specs.Sums.{nothing, AreSmall}
use Rattle.asm_aggregate.proofs.BagSums.{one_added}
use Rattle.asm_aggregate.proofs.bag_sums.add_to.Goals as goal

pub with_action-requires : goal.with_action-requires
with_action-requires c =
    subst AreSmall
    (sym (c.unwrap_or-old.ensures ∙ ap (λ o. unwrap_or o nothing) (c.copied.ensures ∙ c.get.ensures.value)))
    (c.requires c.in-Some.element.now)

pub returns-in_ok-insert : goal.returns-in_ok-insert
returns-in_ok-insert c =
    one_added c.args.by_element.now c.insert.new.self c.args.action.now c.in-Some.element _ _
    (sym c.element_named.ensures ∙ ap option_copied c.in-Some.is)
    (c.unwrap_or-old.ensures ∙ ap (λ o. unwrap_or o nothing) (c.copied.ensures ∙ c.get.ensures.value))
    c.with_action.ensures c.in_ok-insert.ensures.updates.0
