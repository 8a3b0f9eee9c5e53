use Rattle.std.proofs.Common.{◌≡◌, ◌+◌, ◌≤◌, T, length, vec_len, vec_capacity}
use Rattle.std.specs.FinMap as map
use Rattle.std.specs.Option.{option_map, option_or}
use Rattle.asm_element.specs.Place.{Place, location_cmp}
use Rattle.asm_step.specs.Outcomes.{AreReplaced}
use Rattle.asm_step.proofs.outcomes.Outcomes.take_in.Given as goal

-- what is left, over what came in, is all; what came in is listed with what it replaced, and there is room for the rest
abbrev pub invariant-loop-at : goal.invariant-loop-at
invariant-loop-at l = record {
  rising : T (map.is_sorted location_cmp l.at-iterator);
  done : (q : Place) → option_or (option_map (λ v. v) (map.find location_cmp q l.at-iterator)) (map.get l.self q)
      ≡ option_or (option_map (λ v. v) (map.get l.fn.above q)) (map.get l.fn.self q);
  replaced : AreReplaced l.replaced.items l.fn.self l.self;
  room : vec_len l.replaced + length l.at-iterator ≤ vec_capacity l.replaced;
}
