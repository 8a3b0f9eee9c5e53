use Rattle.std.proofs.Common.{◌≡◌}
use Rattle.std.specs.FinMap as finite
use Rattle.asm_step.specs.Outcomes.{puts_on}
use Rattle.asm_step.proofs.puts.held_put.Given as goal

-- the puts that are left come there to what all of them come to
abbrev pub invariant-loop-put : goal.invariant-loop-put
invariant-loop-put l =
    finite.get (puts_on finite.empty l.put-iterator.iter.rest.now) l.at ≡ finite.get (puts_on finite.empty l.puts) l.at
