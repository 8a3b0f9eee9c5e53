use Rattle.std.proofs.Common.{Ok, ap, ◌∙◌}
use Rattle.asm_journal.specs.Element.{IsElementForm}
use Rattle.asm_journal.specs.Set.{IsSetOf}
use Rattle.asm_journal.proofs.FrontObjects.{made_begins, made_of}
use Rattle.asm_journal.proofs.front.value.ElemSetFromFront.from_front.Goals as goal

pub returns : goal.returns
returns c =
    let set = c.in-Ok-Some.set in
    made_begins IsElementForm IsSetOf c.args.text.now c.in_ok-elements.rest.now c.in_ok-elements.elements set c.in_ok-elements.ensures
    (made_of IsSetOf (λ es. es) c.into_vec.result.items c.in_ok-elements.elements c.set_of.result set c.into_vec.ensures
    c.set_of.ensures (c.in-Ok-Some.is ∙ ap Ok c.in-Ok-Some.field-0-is))
