use Rattle.std.proofs.Common.{◌≡◌, ◌++◌, filter}
use Rattle.asm_step.specs.Dependencies.{depends}
use Rattle.asm_transaction.proofs.depending.dependencies_of.Given as goal

-- those so far, and those of what is left, are those of all
abbrev pub invariant-loop-at : goal.invariant-loop-at
invariant-loop-at l =
    l.kept.items ++ filter (depends l.popped) l.at-iterator.rest.items ≡ filter (depends l.popped) l.fn.locations.items
