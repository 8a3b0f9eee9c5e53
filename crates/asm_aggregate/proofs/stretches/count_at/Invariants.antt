use Rattle.std.proofs.Common.{◌≡◌, true, take}
use Rattle.std.specs.List.{AllByRecursion}
use Rattle.std.specs.Ordering.{eq_by_cmp}
use Rattle.asm_element.specs.Place.{location_cmp}
use Rattle.asm_aggregate.specs.Stretch.{referred}
use Rattle.asm_aggregate.proofs.stretches.count_at.Given as goal

-- the instructions so far are at the location
abbrev pub invariant-loop-count : goal.invariant-loop-count
invariant-loop-count l =
    AllByRecursion (λ i. eq_by_cmp location_cmp i.at l.at ≡ true) (referred (take l.count l.list))
