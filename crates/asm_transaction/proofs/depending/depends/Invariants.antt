use Rattle.std.proofs.Common.{◌≡◌, drop}
use Rattle.asm_step.specs.Dependencies.{depends}
use Rattle.asm_transaction.proofs.depending.depends.Given as goal

-- none so far writes there, so that what is left tells of all
abbrev pub invariant-loop-i : goal.invariant-loop-i
invariant-loop-i l = depends l.popped l.at ≡ depends (drop l.i l.more) l.at
