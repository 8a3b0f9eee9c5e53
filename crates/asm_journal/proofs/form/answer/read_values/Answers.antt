use Rattle.std.proofs.Common.{refl, sym, subst, codes, ◌∙◌}
use Rattle.serde_json.specs.View.{view}
use Rattle.asm_journal.specs.Shape.{IsListForm, two_of}
use Rattle.asm_journal.specs.Value.{IsValueForm}
use Rattle.asm_journal.specs.Event.{IsAnswerForm}
use Rattle.asm_journal.proofs.Carried.{carried_ok, carried_err, refused}
use Rattle.asm_journal.proofs.Events.{no_values}
use Rattle.asm_journal.proofs.form.answer.read_values.Goals as goal

pub returns-in_err-values : goal.returns-in_err-values
returns-in_err-values c =
    let n = view c.args.number.now in
    let d = view c.args.values.now in
    refused IsAnswerForm (two_of (codes "number") n (codes "values") d) _ c.in_err-values.field-0.0 c.from_residual.ensures.1
    (λ fault. no_values n d (carried_err (IsListForm IsValueForm) d _ _ c.from_json.ensures c.in_err-values.ensures.carried fault))

pub returns : goal.returns
returns c =
    let n = view c.args.number.now in
    let d = view c.args.values.now in
    let read = carried_ok (IsListForm IsValueForm) d _ c.in_ok-values.values c.from_json.ensures c.in_ok-values.ensures.carried in
    (n, d, refl, c.in-Some.ensures, subst (λ l. IsListForm IsValueForm l d) (sym (c.new.ensures ∙ c.into_vec.ensures)) read)
