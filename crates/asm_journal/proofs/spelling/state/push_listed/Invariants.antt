use Rattle.std.proofs.Common.{Bor, ◌++◌, map, false, string_bytes}
use Rattle.std.specs.Prelude.{drop}
use Rattle.serde_json.specs.Data.{Data}
use Rattle.serde_json.specs.View.{items_of}
use Rattle.serde_json.specs.Written.{items_text}
use Rattle.asm_element.specs.Place.{Place}
use Rattle.asm_element.specs.declared.value.Value.{Value}
use Rattle.asm_journal.specs.Value.{pair_json_of}
use Rattle.asm_journal.proofs.Spelt.{IsSpelt}
use Rattle.asm_journal.proofs.spelling.state.push_listed.Given as goal

abbrev pub invariant-loop-at : goal.invariant-loop-at
invariant-loop-at l =
    let f : Bor Place × Bor Value → Data = λ e. pair_json_of (e.0.now, e.1.now) in
    IsSpelt f (string_bytes l.text) l.later (drop l.at-index l.list)
    (string_bytes l.initial.text ++ items_text false (items_of (map f l.list)))
