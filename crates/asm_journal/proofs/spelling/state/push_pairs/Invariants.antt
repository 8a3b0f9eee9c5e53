use Rattle.std.proofs.Common.{◌++◌, map, false, string_bytes}
use Rattle.serde_json.specs.View.{items_of}
use Rattle.serde_json.specs.Written.{items_text}
use Rattle.asm_journal.specs.Value.{pair_json_of}
use Rattle.asm_journal.proofs.Spelt.{IsSpelt}
use Rattle.asm_journal.proofs.spelling.state.push_pairs.Given as goal

abbrev pub invariant-loop-at : goal.invariant-loop-at
invariant-loop-at l =
    IsSpelt pair_json_of (string_bytes l.text) l.later l.at-iterator
    (string_bytes l.initial.text ++ items_text false (items_of (map pair_json_of l.initial.at-iterator)))
