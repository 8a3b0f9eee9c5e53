use Rattle.asm_state.specs.Plain.{is_wanted}
use Rattle.asm_state.specs.View.{value_at}
use Rattle.asm_state.proofs.Wanted.{IsFilled, held_value}
use Rattle.asm_state.proofs.state.State.wanted.Given as goal

abbrev pub invariant-loop-at : goal.invariant-loop-at
invariant-loop-at l = IsFilled held_value (is_wanted l.name) (value_at l.self) l.at-iterator l.plain
