use Rattle.std.proofs.Common.{◌≡◌, T}
use Rattle.std.specs.FinMap as map
use Rattle.std.specs.Option.{option_map, option_or}
use Rattle.asm_element.specs.Place.{Place, location_cmp}
use Rattle.asm_step.specs.Layers.{outcomes_of}
use Rattle.asm_step.specs.Next.{opened_at}
use Rattle.asm_step.proofs.step.Step.opened.Given as goal

-- what is left, over what came in, is all
abbrev pub invariant-loop-at : goal.invariant-loop-at
invariant-loop-at l = record {
  rising : T (map.is_sorted location_cmp l.at-iterator);
  done : (q : Place) → option_or (option_map (opened_at (outcomes_of l.self) q) (map.find location_cmp q l.at-iterator)) (map.get l.opened q)
      ≡ option_map (opened_at (outcomes_of l.self) q) (map.get l.fn.frame q);
}
