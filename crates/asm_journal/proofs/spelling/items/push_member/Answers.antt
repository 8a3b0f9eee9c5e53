use Rattle.asm_journal.proofs.Spelt.{keyed}
use Rattle.asm_journal.proofs.spelling.items.push_member.Goals as goal

pub returns : goal.returns
returns g c =
    keyed _ _ _ c.args.later c.args.key.now (g.T.ToJson.json_of c.args.value.now) c.in_ok-push_key.ensures c.in_ok-push_text.ensures
