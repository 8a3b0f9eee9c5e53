use Rattle.std.proofs.Common.{◌++◌, map, string_bytes}
use Rattle.std.specs.Prelude.{drop}
use Rattle.serde_json.specs.View.{items_of}
use Rattle.serde_json.specs.Written.{items_text}
use Rattle.asm_journal.proofs.Spelt.{IsSpelt}
use Rattle.asm_journal.proofs.spelling.items.push_items.Given as goal

abbrev pub invariant-loop-item : goal.invariant-loop-item
invariant-loop-item g l =
    let f = g.T.ToJson.json_of in
    IsSpelt f (string_bytes l.text) l.later (drop l.item-index l.items)
    (string_bytes l.initial.text ++ items_text l.fn.after (items_of (map f l.items)))
