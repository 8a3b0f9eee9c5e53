use Rattle.std.proofs.Common.{◌≡◌, ◌+◌, ◌≤◌, T, length, vec_len, vec_capacity}
use Rattle.std.specs.FinMap as map
use Rattle.asm_element.specs.Place.{Place, location_cmp}
use Rattle.asm_aggregate.specs.Bundle.{by_place}
use Rattle.asm_state.specs.Follow.{entry_after}
use Rattle.asm_state.specs.Replaced.{AreReplaced}
use Rattle.asm_state.proofs.entries.Entries.write_each.Given as goal

abbrev pub invariant-loop-at : goal.invariant-loop-at
invariant-loop-at l = record {
  rising : T (map.is_sorted location_cmp (by_place l.at-iterator.rest.items));
  done : (q : Place) → entry_after l.writer (map.find location_cmp q (by_place l.at-iterator.rest.items)) (map.get l.self q) ≡ entry_after l.writer (map.get l.fn.results q) (map.get l.fn.self q);
  replaced : AreReplaced (by_place l.replaced.items) l.fn.self l.self;
  room : vec_len l.replaced + length (by_place l.at-iterator.rest.items) ≤ vec_capacity l.replaced;
}
