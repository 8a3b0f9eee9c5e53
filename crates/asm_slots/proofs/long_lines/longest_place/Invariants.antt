use Rattle.std.proofs.Common.{◌≡◌, map}
use Rattle.std.specs.Prelude.{drop, max}
use Rattle.asm_journal.specs.Element.{location_json_of}
use Rattle.asm_slots.specs.LongLines.{longest}
use Rattle.asm_slots.proofs.long_lines.longest_place.Given as goal

abbrev pub invariant-loop-item : goal.invariant-loop-item
invariant-loop-item g l =
    max l.most (longest (map (λ x. location_json_of (g.P.HasPlace.place_of x)) (drop l.item-index l.items)))
    ≡ longest (map (λ x. location_json_of (g.P.HasPlace.place_of x)) l.items)
