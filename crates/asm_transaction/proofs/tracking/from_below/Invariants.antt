use Rattle.std.proofs.Common.{◌≡◌, ◌++◌, filter}
use Rattle.asm_step.specs.Layers.{shows_below}
use Rattle.asm_transaction.proofs.tracking.from_below.Given as goal

-- those so far, and those of what is left, are those of all
abbrev pub invariant-loop-at : goal.invariant-loop-at
invariant-loop-at l =
    l.kept.items ++ filter (shows_below l.step) l.at-iterator.rest.items ≡ filter (shows_below l.step) l.fn.locations.items
