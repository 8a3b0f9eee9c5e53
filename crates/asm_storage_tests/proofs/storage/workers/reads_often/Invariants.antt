use Rattle.asm_storage.specs.Storage.{IsSameAgent}
use Rattle.asm_storage_tests.proofs.storage.workers.reads_often.Given as goal

abbrev pub invariant-loop : goal.invariant-loop
invariant-loop l = IsSameAgent l.initial.agent l.agent
