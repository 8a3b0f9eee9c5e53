use Rattle.std.proofs.Common.{◌≡◌, All}
use Rattle.asm_storage.specs.Storage.{IsSameAgent}
use Rattle.asm_storage_tests.proofs.storage.workers.marks_each.Given as goal

abbrev pub invariant-loop-instrs : goal.invariant-loop-instrs
invariant-loop-instrs l = record {
  same : IsSameAgent l.initial.agent l.agent;
  marks : All (λ m. m.row ≡ l.agent.storage.row) l.marks.items;
}
