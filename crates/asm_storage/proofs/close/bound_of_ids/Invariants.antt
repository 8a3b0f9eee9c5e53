use Rattle.std.proofs.Common.{◌≡◌, take}
use Rattle.asm_storage.specs.Agents.{id_bound}
use Rattle.asm_storage.specs.Storage.{accounts}
use Rattle.asm_storage.proofs.close.bound_of_ids.Given as goal

abbrev pub invariant-loop-agent : goal.invariant-loop-agent
invariant-loop-agent g l = l.bound ≡ id_bound (accounts (take l.agent-index l.agents))
