use Rattle.std.proofs.Common.{◌≡◌, drop}
use Rattle.asm_step.specs.Outcomes.{are_apart}
use Rattle.asm_step.proofs.puts.are_apart.Given as goal

-- each so far is at no later location, so that what is left tells of all
abbrev pub invariant-loop-i : goal.invariant-loop-i
invariant-loop-i l = are_apart l.instructions ≡ are_apart (drop l.i l.instructions)
