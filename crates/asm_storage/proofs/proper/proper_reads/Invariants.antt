use Rattle.std.proofs.Common.{ℕ, ◌<◌, get_or}
use Rattle.asm_state.specs.declared.named.Named.{Named}
use Rattle.asm_storage.specs.Proper.{IsProperNamed}
use Rattle.asm_storage.proofs.proper.proper_reads.Given as goal

-- those so far are proper
abbrev pub invariant-loop-read : goal.invariant-loop-read
invariant-loop-read l = (k : ℕ) (d : Named) → k < l.read-index → IsProperNamed (get_or l.reads k d)
