use Rattle.asm_update.specs.State.{val}
use Rattle.asm_state.specs.Scans.{has_name}
use Rattle.asm_state.proofs.Onward.{IsOnward}
use Rattle.asm_state.proofs.Wanted.{IsFilled}
use Rattle.asm_state.proofs.plain.opening_from.Given as goal

abbrev pub invariant-loop-at : goal.invariant-loop-at
invariant-loop-at l = record {
  walk : IsOnward l.first l.at-iterator;
  filled : IsFilled (λ v. v) (has_name l.first.name) (val l.opening) l.at-iterator l.plain;
}
