use Rattle.std.proofs.Common.{◌≡◌, ◌++◌, ◌+◌, ◌≤◌, All, length, map, vec_capacity}
use Rattle.asm_storage.specs.Part.{agent_of, IsPartOf}
use Rattle.asm_storage.specs.Storage.{IsOf}
use Rattle.asm_slots.specs.Standard.{meaning}
use Rattle.asm_slots.proofs.store_close.parts_of.Given as goal

abbrev pub invariant-loop-agent : goal.invariant-loop-agent
invariant-loop-agent l = record {
  made : map (agent_of l.storage) l.parts.items ++ l.agent-iterator.rest.items ≡ l.fn.agents.items;
  parts : All (IsPartOf meaning l.storage) l.parts.items;
  left : All (IsOf l.storage) l.agent-iterator.rest.items;
  room : length l.parts.items + length l.agent-iterator.rest.items ≤ vec_capacity l.parts;
}
