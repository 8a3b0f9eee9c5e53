use Rattle.std.proofs.Common.{◌≡◌, ◌+◌, map}
use Rattle.std.specs.Prelude.{drop}
use Rattle.asm_slots.specs.LongLines.{spelled_values}
use Rattle.asm_slots.proofs.long_lines.values_length.Given as goal

abbrev pub invariant-loop-place : goal.invariant-loop-place
invariant-loop-place g l =
    let seen = g.L.Lookup.value_at l.seen in
    let at = g.P.HasPlace.place_of in
    spelled_values seen (map at l.places) + l.left ≡ l.initial.left + spelled_values seen (map at (drop l.place-index l.places))
