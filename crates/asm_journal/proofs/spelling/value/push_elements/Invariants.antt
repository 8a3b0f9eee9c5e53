use Rattle.std.proofs.Common.{◌++◌, map, false, string_bytes}
use Rattle.serde_json.specs.View.{items_of}
use Rattle.serde_json.specs.Written.{items_text}
use Rattle.asm_journal.specs.Element.{element_json_of}
use Rattle.asm_journal.proofs.Spelt.{IsSpelt}
use Rattle.asm_journal.proofs.spelling.value.push_elements.Given as goal

abbrev pub invariant-loop-element : goal.invariant-loop-element
invariant-loop-element l =
    IsSpelt element_json_of (string_bytes l.text) l.later l.element-iterator
    (string_bytes l.initial.text ++ items_text false (items_of (map element_json_of l.initial.element-iterator)))
