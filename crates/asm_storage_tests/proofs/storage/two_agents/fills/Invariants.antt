use Rattle.asm_storage.specs.Storage.{IsSameAgent}
use Rattle.asm_storage_tests.proofs.storage.two_agents.fills.Given as goal

abbrev pub invariant-loop-k : goal.invariant-loop-k
invariant-loop-k l = IsSameAgent l.initial.agent l.agent
