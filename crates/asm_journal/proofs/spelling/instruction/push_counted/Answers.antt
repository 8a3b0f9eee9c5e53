use Rattle.std.proofs.Common.{◌∙◌, ◌++◌, ap, true, string_bytes}
use Rattle.serde_json.specs.Data.{item, no_items}
use Rattle.serde_json.specs.Written.{compact_text}
use Rattle.asm_journal.specs.Element.{element_json_of, location_json_of}
use Rattle.asm_journal.specs.Instruction.{instruction_of}
use Rattle.asm_journal.specs.Shape.{number_json_of}
use Rattle.asm_journal.proofs.Spelt.{array_with_text, item_more}
use Rattle.asm_journal.proofs.spelling.instruction.push_counted.Goals as goal

pub returns : goal.returns
returns c =
    let at = location_json_of c.args.at.now in
    let element = element_json_of c.args.element.now in
    let n = number_json_of c.get.result in
    let word = c.args.word.now in
    array_with_text _ _ _ _ word (item at (item element (item n no_items))) c.in_ok-push_sign.ensures c.in_ok-push_quoted.ensures
    (c.in_ok-push_sign-2.ensures ∙ item_more _ _ true n no_items c.in_ok-push_next-3.ensures
    ∙ item_more _ _ true element (item n no_items) c.in_ok-push_next-2.ensures
    ∙ item_more _ _ true at (item element (item n no_items)) c.in_ok-push_next.ensures)
    ∙ ap (λ k. string_bytes c.args.text.now ++ compact_text (instruction_of word at (item element (item (number_json_of k) no_items)))) c.get.ensures.value
