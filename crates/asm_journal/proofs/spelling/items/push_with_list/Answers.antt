use Rattle.std.proofs.Common.{map}
use Rattle.asm_journal.specs.Shape.{list_of}
use Rattle.asm_journal.proofs.Spelt.{two_members}
use Rattle.asm_journal.proofs.spelling.items.push_with_list.Goals as goal

pub returns : goal.returns
returns g c =
    two_members _ _ _ _ _ c.args.key.now (g.A.ToJson.json_of c.args.first.now) c.args.next.now
    (list_of (map g.B.ToJson.json_of c.args.items.now)) c.in_ok-push_sign.ensures c.in_ok-push_member.ensures
    c.in_ok-push_list_member.ensures c.in_ok-push_sign-2.ensures
