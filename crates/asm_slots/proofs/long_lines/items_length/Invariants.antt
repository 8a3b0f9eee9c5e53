use Rattle.std.proofs.Common.{◌≡◌, ◌+◌, map}
use Rattle.std.specs.Prelude.{drop}
use Rattle.asm_slots.specs.LongLines.{spelled_list}
use Rattle.asm_slots.proofs.long_lines.items_length.Given as goal

abbrev pub invariant-loop-item : goal.invariant-loop-item
invariant-loop-item g l =
    let f = g.T.ToJson.json_of in
    spelled_list (map f l.items) + l.left ≡ l.initial.left + spelled_list (map f (drop l.item-index l.items))
