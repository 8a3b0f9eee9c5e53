use Rattle.asm_aggregate.specs.Standard.{standard_meaning}
use Rattle.asm_slots.proofs.OwnAgents.{lent}
use Rattle.asm_slots.proofs.owned_agent.OwnedAgent.follow.Goals as goal

pub follow-requires-after_bounds : goal.follow-requires-after_bounds
unfolding standard_meaning
follow-requires-after_bounds c κs = lent _ _ c.self.inside.part c.deref.ensures c.self.invariant
