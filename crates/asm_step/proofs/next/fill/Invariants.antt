use Rattle.std.proofs.Common.{◌≡◌, ◌+◌, ◌≤◌, length, take}
use Rattle.asm_step.specs.Next.{AreFilled}
use Rattle.asm_step.specs.Outcomes.{listed}
use Rattle.asm_step.proofs.next.fill.Given as goal

-- the actions of the instructions so far came in, and as many were counted
abbrev pub invariant-loop-instruction : goal.invariant-loop-instruction
invariant-loop-instruction l = record {
  filled : AreFilled (take l.instruction-index l.instructions) l.fn.outcomes l.outcomes;
  counted : l.count + length (listed l.fn.outcomes) ≡ length (listed l.outcomes);
  few : l.count ≤ l.instruction-index;
}
