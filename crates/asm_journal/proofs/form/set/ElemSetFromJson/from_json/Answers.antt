use Rattle.std.proofs.Common.{subst}
use Rattle.serde_json.specs.View.{view}
use Rattle.asm_journal.specs.Shape.{IsParsed}
use Rattle.asm_journal.specs.Element.{IsElementForm}
use Rattle.asm_journal.specs.Set.{IsSetOf, IsSetForm}
use Rattle.asm_journal.proofs.Carried.{refused}
use Rattle.asm_journal.proofs.Elements.{made_read, element_once}
use Rattle.asm_journal.proofs.form.set.ElemSetFromJson.from_json.Goals as goal

pub returns-in_err-elements : goal.returns-in_err-elements
returns-in_err-elements c =
    refused IsSetForm (view c.args.json.now) _ c.in_err-elements.field-0.0 c.from_residual.ensures.1
    (λ fault s h. c.in_err-elements.ensures fault h.0 h.1)

pub returns-in-Some : goal.returns-in-Some
returns-in-Some c =
    let d = view c.args.json.now in
    let o = c.in_ok-set.field-0 in
    let made = subst (λ items. IsParsed IsSetOf items o) c.into_vec.ensures c.in_ok-set.ensures in
    subst (IsParsed IsSetForm d) c.in-Some.is (made_read IsElementForm IsSetOf element_once d c.in_ok-elements.elements o c.in_ok-elements.ensures made)

pub returns-in-None : goal.returns-in-None
returns-in-None c =
    let d = view c.args.json.now in
    let o = c.in_ok-set.field-0 in
    let made = subst (λ items. IsParsed IsSetOf items o) c.into_vec.ensures c.in_ok-set.ensures in
    λ fault. subst (IsParsed IsSetForm d) c.in-None.is (made_read IsElementForm IsSetOf element_once d c.in_ok-elements.elements o c.in_ok-elements.ensures made)
