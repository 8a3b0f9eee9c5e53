use Rattle.std.proofs.Common.{◌≡◌, drop}
use Rattle.asm_step.specs.Outcomes.{puts_on}
use Rattle.asm_step.proofs.puts.gather_puts.Given as goal

-- the puts that are left come in on what those so far came to
abbrev pub invariant-loop-put : goal.invariant-loop-put
invariant-loop-put l = puts_on l.all (drop l.put-index l.puts) ≡ puts_on l.fn.all l.puts
