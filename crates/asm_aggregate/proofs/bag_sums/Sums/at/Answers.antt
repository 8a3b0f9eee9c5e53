use Rattle.std.proofs.Common.{◌≤◌, ◌^◌, ap, sym, subst, ◌∙◌, unwrap_or}
use Rattle.asm_aggregate.specs.Sums.{nothing}
use Rattle.asm_aggregate.specs.declared.bag_sums.Amounts.{Amounts}
use Rattle.asm_aggregate.proofs.bag_sums.Sums.at.Goals as goal

pub returns-clause-added_fits : goal.returns-clause-added_fits
returns-clause-added_fits c =
    subst (λ (a : Amounts). a.added ≤ 2 ^ 96)
    (sym (c.unwrap_or.ensures ∙ ap (λ o. unwrap_or o nothing) (c.copied.ensures ∙ c.get.ensures.value)))
    (c.self.invariant.added_fits c.args.element.now)

pub returns-clause-removed_fits : goal.returns-clause-removed_fits
returns-clause-removed_fits c =
    subst (λ (a : Amounts). a.removed ≤ 2 ^ 96)
    (sym (c.unwrap_or.ensures ∙ ap (λ o. unwrap_or o nothing) (c.copied.ensures ∙ c.get.ensures.value)))
    (c.self.invariant.removed_fits c.args.element.now)
