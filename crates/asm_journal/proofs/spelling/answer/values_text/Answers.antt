use Rattle.std.proofs.Common.{◌∙◌, ◌++◌, ap, codes, map, true}
use Rattle.serde_json.specs.Written.{compact_text}
use Rattle.asm_journal.specs.Shape.{list_of, number_json_of, two_of}
use Rattle.asm_journal.specs.Value.{value_json_of}
use Rattle.asm_journal.proofs.Spelt.{keyed, two_members}
use Rattle.asm_journal.proofs.spelling.answer.values_text.Goals as goal

pub returns : goal.returns
returns g c =
    let n = number_json_of c.args.number in
    let d = list_of (map value_json_of (map (g.L.Lookup.value_at c.args.seen.now) c.args.locations.now)) in
    two_members _ _ _ _ _ (codes "number") n (codes "values") d c.in_ok-push_sign.ensures c.in_ok-push_member.ensures
    (keyed _ _ _ true (codes "values") d c.in_ok-push_key.ensures c.in_ok-push_each_seen.ensures) c.in_ok-push_sign-2.ensures
    ∙ ap (λ l. l ++ compact_text (two_of (codes "number") n (codes "values") d)) c.in_ok-text.ensures.bytes
