use Rattle.std.proofs.Common.{map}
use Rattle.asm_journal.specs.Shape.{list_of}
use Rattle.asm_journal.proofs.Spelt.{one_member}
use Rattle.asm_journal.proofs.spelling.items.push_one_list.Goals as goal

pub returns : goal.returns
returns g c =
    one_member _ _ _ _ c.args.key.now (list_of (map g.T.ToJson.json_of c.args.items.now)) c.in_ok-push_sign.ensures c.in_ok-push_list_member.ensures
    c.in_ok-push_sign-2.ensures
