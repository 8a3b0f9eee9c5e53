use Rattle.std.proofs.Common.{◌≡◌, take}
use Rattle.asm_storage.specs.Agents.{most_seen}
use Rattle.asm_storage.specs.Storage.{accounts}
use Rattle.asm_slots.proofs.store_close.most_seen.Given as goal

abbrev pub invariant-loop-agent : goal.invariant-loop-agent
invariant-loop-agent l = l.seen ≡ most_seen (accounts (take l.agent-index l.agents))
