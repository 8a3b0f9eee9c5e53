use Rattle.std.proofs.Common.{sym, subst, ◌∙◌}
use Rattle.serde_json.specs.View.{view}
use Rattle.asm_journal.specs.Element.{IsLocationForm}
use Rattle.asm_journal.specs.Event.{IsClashForm}
use Rattle.asm_journal.proofs.Arrays.{same_pair}
use Rattle.asm_journal.proofs.Carried.{carried_ok, carried_err, refused}
use Rattle.asm_journal.proofs.form.answer.ClashFromJson.from_json.Goals as goal

pub returns-in_err-at : goal.returns-in_err-at
returns-in_err-at c =
    let at = view c.in-Some.at.now in
    refused IsClashForm (view c.args.json.now) _ c.in_err-at.field-0.0 c.from_residual.ensures.1
    (λ fault x h.
    carried_err IsLocationForm at _ _ c.from_json.ensures c.in_err-at.ensures.carried fault x.at
    (subst (IsLocationForm x.at) (same_pair _ _ _ _ (sym h.2 ∙ c.in-Some.ensures.some)).0 h.3))

pub returns : goal.returns
returns c =
    let at = view c.in-Some.at.now in
    let located = carried_ok IsLocationForm at _ c.in_ok-at.at c.from_json.ensures c.in_ok-at.ensures.carried in
    (at, view c.in-Some.cause.now, c.in-Some.ensures.some, located, c.in-Some-read_cause.ensures)
