use Rattle.asm_update.specs.State.{val}
use Rattle.asm_state.specs.Plain.{is_wanted}
use Rattle.asm_state.proofs.Wanted.{IsFilled}
use Rattle.asm_state.proofs.plain.opening_values.Given as goal

abbrev pub invariant-loop-at : goal.invariant-loop-at
invariant-loop-at l = IsFilled (λ v. v) (is_wanted l.name) (val l.opening) l.at-iterator l.plain
