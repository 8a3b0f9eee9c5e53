use Rattle.std.proofs.Common.{◌++◌, map, false, string_bytes}
use Rattle.std.specs.Prelude.{drop}
use Rattle.serde_json.specs.Data.{Data}
use Rattle.serde_json.specs.View.{items_of}
use Rattle.asm_element.specs.Place.{Place}
use Rattle.serde_json.specs.Written.{items_text}
use Rattle.asm_journal.specs.Value.{value_json_of}
use Rattle.asm_journal.proofs.Spelt.{IsSpelt}
use Rattle.asm_journal.proofs.spelling.answer.push_each_seen.Given as goal

abbrev pub invariant-loop-at : goal.invariant-loop-at
invariant-loop-at g l =
    let f : Place → Data = λ at. value_json_of (g.L.Lookup.value_at l.seen at) in
    IsSpelt f (string_bytes l.text) l.later (drop l.at-index l.locations)
    (string_bytes l.initial.text ++ items_text false (items_of (map f l.locations)))
