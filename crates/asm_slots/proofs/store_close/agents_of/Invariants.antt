use Rattle.std.proofs.Common.{◌≡◌, ◌++◌, ◌+◌, ◌≤◌, All, length, map, vec_capacity}
use Rattle.asm_storage.specs.Part.{agent_of, IsPartOf}
use Rattle.asm_slots.specs.Standard.{meaning}
use Rattle.asm_slots.proofs.store_close.agents_of.Given as goal

abbrev pub invariant-loop-part : goal.invariant-loop-part
invariant-loop-part l = record {
  made : l.agents.items ++ map (agent_of l.storage) l.part-iterator.rest.items ≡ map (agent_of l.storage) l.fn.parts.items;
  left : All (IsPartOf meaning l.storage) l.part-iterator.rest.items;
  room : length l.agents.items + length l.part-iterator.rest.items ≤ vec_capacity l.agents;
}
