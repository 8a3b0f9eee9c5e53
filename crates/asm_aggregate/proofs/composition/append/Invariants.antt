use Rattle.std.proofs.Common.{◌≡◌, ◌++◌}
use Rattle.asm_aggregate.specs.Compose.{placed}
use Rattle.asm_aggregate.proofs.composition.append.Given as goal

-- the list with what is left is the list with all
abbrev pub invariant-loop-action : goal.invariant-loop-action
invariant-loop-action l =
    l.list.items ++ placed l.at l.action-iterator.rest.items ≡ l.fn.list.items ++ placed l.at l.fn.actions.items
