use Rattle.std.proofs.Common.{ap₂, ◌∙◌, ◌++◌, map, string_bytes}
use Rattle.serde_json.specs.Data.{string, array, item}
use Rattle.serde_json.specs.View.{items_of}
use Rattle.serde_json.specs.Written.{compact_text}
use Rattle.asm_journal.specs.Element.{element_json_of}
use Rattle.asm_journal.proofs.Spelt.{array_with_text}
use Rattle.asm_journal.proofs.spelling.element.LocationToText.push_text.Goals as goal

pub returns : goal.returns
returns c =
    array_with_text _ _ _ _ c.name-name.result.now (items_of (map element_json_of c.args-behind.result.now))
    c.in_ok-push_sign.ensures c.in_ok-push_quoted.ensures c.in_ok-push_items.ensures
    ∙ ap₂ (λ n es. string_bytes c.args.text.now ++ compact_text (array (item (string n) (items_of (map element_json_of es)))))
    c.name-name.ensures.name c.args-behind.ensures.args
