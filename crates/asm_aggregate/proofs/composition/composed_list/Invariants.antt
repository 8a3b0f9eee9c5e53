use Rattle.asm_aggregate.specs.Bundle.{by_place}
use Rattle.asm_aggregate.proofs.Composing.{IsComposing}
use Rattle.asm_aggregate.proofs.composition.composed_list.Given as goal

-- the locations that aren't left are composed
abbrev pub invariant-loop-at : goal.invariant-loop-at
invariant-loop-at g l =
    IsComposing (g.A.Aggregator.meaning l.aggregator) l.first l.second (by_place l.at-iterator) l.seconds l.list.items
