use Rattle.std.proofs.Common.{◌≡◌, T}
use Rattle.std.specs.FinMap as map
use Rattle.std.specs.Option.{option_map}
use Rattle.asm_element.specs.Place.{Place, location_cmp}
use Rattle.asm_state.specs.Follow.{over}
use Rattle.asm_state.proofs.entries.Entries.copy.Given as goal

-- what is left, over what was copied, is all
abbrev pub invariant-loop-at : goal.invariant-loop-at
invariant-loop-at l = record {
  rising : T (map.is_sorted location_cmp l.at-iterator);
  done : (q : Place) → over (option_map (λ w. w) (map.find location_cmp q l.at-iterator)) (map.get l.copy q) ≡ option_map (λ w. w) (map.get l.self q);
}
