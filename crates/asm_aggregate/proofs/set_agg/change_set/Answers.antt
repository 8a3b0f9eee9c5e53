use Rattle.std.proofs.Common.{List, [], ◌∙◌, ap, subst}
use Rattle.std.specs.Borrow.{Bor}
use Rattle.asm_element.specs.declared.element.Element.{Element}
use Rattle.asm_aggregate.specs.Sets.{difference, IsSameBesides}
use Rattle.asm_aggregate.proofs.SetSteps.{additions_first, besides_then, besides_none}
use Rattle.asm_aggregate.proofs.set_agg.change_set.Goals as goal

pub returns-in-Ok-clause-ok : goal.returns-in-Ok-clause-ok
returns-in-Ok-clause-ok c =
    c.take_all.ensures ∙ ap (λ s. difference s c.args.sides.now.removed) c.in-Ok.ensures.ok
    ∙ additions_first c.args.set.now c.args.sides.now.added c.args.sides.now.removed c.requires

pub returns-in-Err-clause-err : goal.returns-in-Err-clause-err
returns-in-Err-clause-err c =
    let back = besides_then _ _ _ _ _ _ c.put_all.ensures.besides c.take_back.ensures in
    besides_none c.args.set.now c.take_back.new.elements
    (subst (λ (xs : List (Bor Element)). IsSameBesides c.args.set.now xs c.take_back.new.elements []) c.new-fresh.ensures.items back)
