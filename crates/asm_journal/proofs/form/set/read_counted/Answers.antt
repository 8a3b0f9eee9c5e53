use Rattle.std.proofs.Common.{sym, subst, ◌∙◌}
use Rattle.serde_json.specs.View.{view, items_view}
use Rattle.asm_journal.specs.Element.{IsElementForm}
use Rattle.asm_journal.specs.Set.{IsCounted}
use Rattle.asm_journal.proofs.Arrays.{same_items}
use Rattle.asm_journal.proofs.Carried.{carried_err, refused}
use Rattle.asm_journal.proofs.form.set.read_counted.Goals as goal

pub returns-in_err-element : goal.returns-in_err-element
returns-in_err-element c =
    let e = view c.in-Some.element.now in
    refused (λ x. IsCounted (x.0, x.1)) (items_view c.args.items.now) _ c.in_err-element.field-0.0 c.from_residual.ensures.1
    (λ fault x h.
    carried_err IsElementForm e _ _ c.from_json.ensures c.in_err-element.ensures.carried fault x.0
    (subst (IsElementForm x.0) (same_items _ _ _ _ (sym h.2 ∙ c.in-Some.ensures.some)).0 h.3))
