use Rattle.asm_storage.specs.Storage.{IsSameAgent}
use Rattle.asm_storage_tests.proofs.storage.workers.fires_each.Given as goal

abbrev pub invariant-loop-instrs : goal.invariant-loop-instrs
invariant-loop-instrs l = IsSameAgent l.initial.agent l.agent
