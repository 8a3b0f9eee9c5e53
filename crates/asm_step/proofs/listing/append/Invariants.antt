use Rattle.std.proofs.Common.{◌≡◌, ◌++◌, take}
use Rattle.asm_aggregate.specs.Compose.{placed}
use Rattle.asm_step.proofs.listing.append.Given as goal

-- the actions so far were appended
abbrev pub invariant-loop-action : goal.invariant-loop-action
invariant-loop-action l = l.list ≡ l.fn.list ++ placed l.at (take l.action-index l.actions)
