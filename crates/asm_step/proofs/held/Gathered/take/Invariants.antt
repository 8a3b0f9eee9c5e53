use Rattle.std.proofs.Common.{◌≡◌, T}
use Rattle.std.specs.FinMap as map
use Rattle.std.specs.Option.{option_map, option_or}
use Rattle.asm_element.specs.Place.{Place, location_cmp}
use Rattle.asm_step.proofs.held.Gathered.take.Given as goal

-- what is left, over what came in, is all
abbrev pub invariant-loop-at : goal.invariant-loop-at
invariant-loop-at l = record {
  rising : T (map.is_sorted location_cmp l.at-iterator);
  done : (q : Place) → option_or (option_map (λ v. v) (map.find location_cmp q l.at-iterator)) (map.get l.self q)
      ≡ option_or (option_map (λ v. v) (map.get l.above q)) (map.get l.fn.self q);
}
