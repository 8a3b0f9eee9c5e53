use Rattle.std.proofs.Common.{◌≡◌, ◌++◌, map, filter}
use Rattle.asm_aggregate.specs.Bundle.{by_place}
use Rattle.asm_step.specs.Outcomes.{dependencies_in}
use Rattle.asm_step.proofs.listing.dependency_places.Given as goal

-- the places so far, in front of those that are left, are all
abbrev pub invariant-loop-at : goal.invariant-loop-at
invariant-loop-at l =
    l.places.items ++ map (λ e. e.0) (filter (λ e. e.1.depends) (by_place l.at-iterator)) ≡ dependencies_in l.fn.all
