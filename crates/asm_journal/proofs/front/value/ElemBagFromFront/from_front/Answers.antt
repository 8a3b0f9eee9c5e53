use Rattle.std.proofs.Common.{Ok, map, ap, ◌∙◌}
use Rattle.asm_journal.specs.Set.{IsCountForm, IsBagOf}
use Rattle.asm_journal.proofs.FrontObjects.{made_begins, made_of}
use Rattle.asm_journal.proofs.Elements.{list_seen, count_of}
use Rattle.asm_journal.proofs.front.value.ElemBagFromFront.from_front.Goals as goal

pub returns : goal.returns
returns c =
    let bag = c.in-Ok-Some.bag in
    let counts = c.in_ok-counts.counts in
    let b = c.in_ok-counts.ensures in
    made_begins IsCountForm IsBagOf c.args.text.now c.in_ok-counts.rest.now (map count_of counts) bag
    (b.0, b.1, list_seen count_of IsCountForm counts b.0 b.2)
    (made_of IsBagOf (map count_of) c.into_vec.result.items counts c.bag_of.result bag c.into_vec.ensures c.bag_of.ensures
    (c.in-Ok-Some.is ∙ ap Ok c.in-Ok-Some.field-0-is))
