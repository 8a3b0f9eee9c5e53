use Rattle.asm_aggregate.specs.Standard.{standard_meaning}
use Rattle.asm_slots.proofs.OwnAgents.{lent}
use Rattle.asm_slots.proofs.owned_agent.OwnedAgent.learn.Goals as goal

pub of-agent-requires-after_bounds : goal.of-agent-requires-after_bounds
unfolding standard_meaning
of-agent-requires-after_bounds c κs = lent _ _ c.self.inside.part c.deref.ensures c.self.invariant
