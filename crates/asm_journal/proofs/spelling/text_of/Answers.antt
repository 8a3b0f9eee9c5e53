use Rattle.std.proofs.Common.{◌∙◌, ◌++◌, ap}
use Rattle.serde_json.specs.Written.{compact_text}
use Rattle.asm_journal.proofs.spelling.text_of.Goals as goal

pub returns : goal.returns
returns g c =
    c.in_ok-push_text.ensures ∙ ap (λ l. l ++ compact_text (g.T.ToJson.json_of c.args.value.now)) c.in_ok-text.ensures.bytes
