use Rattle.asm_state.specs.Scans.{has_name}
use Rattle.asm_state.specs.View.{value_at}
use Rattle.asm_state.proofs.Onward.{IsOnward}
use Rattle.asm_state.proofs.Wanted.{IsFilled, held_value}
use Rattle.asm_state.proofs.state.State.from_first.Given as goal

abbrev pub invariant-loop-at : goal.invariant-loop-at
invariant-loop-at l = record {
  walk : IsOnward l.first l.at-iterator;
  filled : IsFilled held_value (has_name l.first.name) (value_at l.self) l.at-iterator l.plain;
}
