use Rattle.std.proofs.Common.{◌≡◌, true, false, take}
use Rattle.asm_step.specs.Layers.{outcomes_of}
use Rattle.asm_step.specs.Next.{those}
use Rattle.asm_step.proofs.step.Step.split.Given as goal

-- those so far were appended
abbrev pub invariant-loop-instruction : goal.invariant-loop-instruction
invariant-loop-instruction l = record {
  shared : l.shared ≡ those true (outcomes_of l.self) (take l.instruction-index l.instructions);
  apart : l.apart ≡ those false (outcomes_of l.self) (take l.instruction-index l.instructions);
}
