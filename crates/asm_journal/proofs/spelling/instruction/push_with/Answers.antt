use Rattle.std.proofs.Common.{◌∙◌, true}
use Rattle.serde_json.specs.Data.{item, no_items}
use Rattle.asm_journal.specs.Element.{location_json_of}
use Rattle.asm_journal.proofs.Spelt.{array_with_text, item_more}
use Rattle.asm_journal.proofs.spelling.instruction.push_with.Goals as goal

pub returns : goal.returns
returns g c =
    let at = location_json_of c.args.at.now in
    let operand = g.T.ToJson.json_of c.args.operand.now in
    array_with_text _ _ _ _ c.args.word.now (item at (item operand no_items)) c.in_ok-push_sign.ensures c.in_ok-push_quoted.ensures
    (c.in_ok-push_sign-2.ensures ∙ item_more _ _ true operand no_items c.in_ok-push_next-2.ensures
    ∙ item_more _ _ true at (item operand no_items) c.in_ok-push_next.ensures)
