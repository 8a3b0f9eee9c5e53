use Rattle.std.proofs.Common.{◌≡◌, T}
use Rattle.std.specs.FinMap as map
use Rattle.asm_element.specs.Place.{Place, location_cmp}
use Rattle.asm_state.specs.Scans.{is_newer}
use Rattle.asm_state.specs.View.{writer_of}
use Rattle.asm_state.proofs.entries.Entries.least_of_all.Given as goal

-- what is left tells of each location what all entries tell
abbrev pub invariant-loop-at : goal.invariant-loop-at
invariant-loop-at l = record {
  rising : T (map.is_sorted location_cmp l.at-iterator);
  same : (q : Place) → is_newer l.name l.number q (writer_of (map.find location_cmp q l.at-iterator))
      ≡ is_newer l.name l.number q (writer_of (map.get l.self q));
}
