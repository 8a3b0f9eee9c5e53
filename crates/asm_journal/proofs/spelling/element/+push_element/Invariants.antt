use Rattle.std.proofs.Common.{◌++◌, map, false, string_bytes}
use Rattle.std.specs.Prelude.{drop}
use Rattle.serde_json.specs.View.{items_of}
use Rattle.serde_json.specs.Written.{items_text}
use Rattle.asm_element.specs.Datum.{depth}
use Rattle.asm_element.specs.View.{datum}
use Rattle.asm_journal.specs.Element.{element_json_of}
use Rattle.asm_journal.proofs.Spelt.{IsSpelt}
use Rattle.asm_journal.proofs.spelling.element.+push_element.Given as goal

-- how deep lists nest in the element
abbrev pub decreases-push_element : goal.decreases-push_element
decreases-push_element l = depth (datum l.element.now)

abbrev pub invariant-loop-item : goal.invariant-loop-item
invariant-loop-item l =
    IsSpelt element_json_of (string_bytes l.text) l.later (drop l.item-index l.item-items)
    (string_bytes l.initial.text ++ items_text false (items_of (map element_json_of l.item-items)))
