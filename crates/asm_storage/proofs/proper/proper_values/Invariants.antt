use Rattle.std.proofs.Common.{ℕ, ◌<◌, get_or}
use Rattle.asm_element.specs.Value.{IsProper}
use Rattle.asm_element.specs.declared.value.Value.{Value}
use Rattle.asm_storage.proofs.proper.proper_values.Given as goal

-- those so far are proper
abbrev pub invariant-loop-value : goal.invariant-loop-value
invariant-loop-value l = (k : ℕ) (d : Value) → k < l.value-index → IsProper (get_or l.values k d)
