use Rattle.std.proofs.Common.{ap, refl, ◌∙◌, ◌++◌, string_bytes}
use Rattle.serde_json.specs.Written.{compact_text}
use Rattle.asm_journal.proofs.spelling.scalars.push_escaped.Goals as goal

pub returns : goal.returns
returns c =
    c.in_ok-push_str.ensures.bytes
    ∙ ap (λ l. string_bytes c.args.text.now ++ l) (c.as_str.ensures.value ∙ c.in_ok-escaped.ensures ∙ ap compact_text c.in_ok-json.ensures)

pub compact-requires : goal.compact-requires
compact-requires c = rw c.in_ok-json.ensures refl
