use Rattle.std.proofs.Common.{◌≡◌, ◌++◌}
use Rattle.std.specs.List.{flat_map}
use Rattle.asm_aggregate.specs.Bundle.{by_place}
use Rattle.asm_aggregate.specs.Compose.{placed}
use Rattle.asm_step.specs.Outcomes.{listed}
use Rattle.asm_step.proofs.listing.listing.Given as goal

-- what is listed, in front of what is left, is all
abbrev pub invariant-loop-at : goal.invariant-loop-at
invariant-loop-at l = l.list ++ flat_map (λ e. placed e.0 e.1.actions) (by_place l.at-iterator) ≡ listed l.fn.all
