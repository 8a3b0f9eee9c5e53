use Rattle.std.proofs.Common.{ap, ◌∙◌, ◌∷◌, ◌++◌, [], append_assoc, string_bytes}
use Rattle.json.specs.Print.{quoted}
use Rattle.asm_journal.proofs.Spelt.{three_pieces}
use Rattle.asm_journal.proofs.spelling.items.push_open.Goals as goal

pub returns : goal.returns
returns c =
    three_pieces _ _ _ _ _ _ _ c.in_ok-push_sign.ensures c.in_ok-push_key.ensures c.in_ok-push_sign-2.ensures
    ∙ ap (λ l. string_bytes c.args.text.now ++ 123 ∷ l) (append_assoc (quoted c.args.key.now) (58 ∷ []) (91 ∷ []))
