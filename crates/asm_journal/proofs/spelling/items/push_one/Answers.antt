use Rattle.asm_journal.proofs.Spelt.{one_member}
use Rattle.asm_journal.proofs.spelling.items.push_one.Goals as goal

pub returns : goal.returns
returns g c =
    one_member _ _ _ _ c.args.key.now (g.T.ToJson.json_of c.args.value.now) c.in_ok-push_sign.ensures c.in_ok-push_member.ensures c.in_ok-push_sign-2.ensures
