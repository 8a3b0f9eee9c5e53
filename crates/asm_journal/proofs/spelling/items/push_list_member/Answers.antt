use Rattle.std.proofs.Common.{map}
use Rattle.asm_journal.specs.Shape.{list_of}
use Rattle.asm_journal.proofs.Spelt.{keyed}
use Rattle.asm_journal.proofs.spelling.items.push_list_member.Goals as goal

pub returns : goal.returns
returns g c =
    keyed _ _ _ c.args.later c.args.key.now (list_of (map g.T.ToJson.json_of c.args.items.now)) c.in_ok-push_key.ensures c.in_ok-push_list.ensures
