use Rattle.std.proofs.Common.{◌∷◌, ap, ◌∙◌}
use Rattle.asm_journal.proofs.Compact.{one_more, last_one}
use Rattle.asm_journal.proofs.front.items.some_items.Goals as goal

pub items-preserved : goal.items-preserved
items-preserved g c =
    let more = c.in_ok-byte.more.now in
    one_more g.T.FromJson.is_form c.args.text.now c.items.found.items c.push_item.new.found.items c.in_ok-item.item c.items.rest.now
    c.in_ok-item.left.now more c.items.invariant c.in_ok-item.ensures
    (c.in_ok-byte.ensures.cases.0 ∙ ap (λ b. b ∷ more) c.in-44.is) c.in_ok-push_item.ensures

pub returns-in-93 : goal.returns-in-93
returns-in-93 g c =
    let more = c.in_ok-byte.more.now in
    last_one g.T.FromJson.is_form c.args.text.now c.items.found.items c.push_item.new.found.items c.in_ok-item.item c.items.rest.now
    c.in_ok-item.left.now more c.items.invariant c.in_ok-item.ensures
    (c.in_ok-byte.ensures.cases.0 ∙ ap (λ b. b ∷ more) c.in-93.is) c.in_ok-push_item.ensures
