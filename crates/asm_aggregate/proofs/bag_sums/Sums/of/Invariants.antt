use Rattle.std.proofs.Common.{◌*◌, take}
use Rattle.asm_aggregate.specs.Sums.{AreSums}
use Rattle.asm_aggregate.proofs.bag_sums.Sums.of.Given as goal

-- the map has the sums of the actions so far, each of which has at most 4,294,967,295
abbrev pub invariant-loop-action : goal.invariant-loop-action
invariant-loop-action l = AreSums (take l.action-index l.actions) (l.action-index * 4294967295) l.by_element
