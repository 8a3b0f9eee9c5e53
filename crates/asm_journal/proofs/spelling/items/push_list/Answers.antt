use Rattle.asm_journal.proofs.Spelt.{array_of_left}
use Rattle.asm_journal.proofs.spelling.items.push_list.Goals as goal

pub returns : goal.returns
returns g c =
    array_of_left g.T.ToJson.json_of _ _ _ c.args.items.now c.in_ok-push_sign.ensures c.in_ok-push_items.ensures
