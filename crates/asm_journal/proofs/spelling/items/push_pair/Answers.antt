use Rattle.std.proofs.Common.{◌∙◌, true, false}
use Rattle.serde_json.specs.Data.{item, no_items}
use Rattle.serde_json.specs.Written.{items_text}
use Rattle.asm_journal.proofs.Spelt.{item_more, opened}
use Rattle.asm_journal.proofs.spelling.items.push_pair.Goals as goal

pub returns : goal.returns
returns g c =
    let a = g.A.ToJson.json_of c.args.first.now in
    let b = g.B.ToJson.json_of c.args.second.now in
    c.in_ok-push_sign-2.ensures ∙ item_more _ _ true b no_items c.in_ok-push_next.ensures
    ∙ item_more _ _ false a (item b no_items) c.in_ok-push_text.ensures
    ∙ opened _ _ 91 (items_text false (item a (item b no_items))) c.in_ok-push_sign.ensures
