use Rattle.std.proofs.Common.{List, ℕ, ap, ◌∙◌, ◌++◌, length}
use Rattle.serde_json.specs.Written.{compact_text}
use Rattle.asm_slots.proofs.long_lines.length_of.Goals as goal

pub returns : goal.returns
returns g c =
    let text = compact_text (g.T.ToJson.json_of c.args.piece.now) in
    let bytes = c.as_str.ensures.value ∙ c.in_ok-push_text.ensures ∙ ap (λ (s : List ℕ). s ++ text) c.in_ok-text.ensures.bytes in
    ap (λ (s : List ℕ). length s) bytes
