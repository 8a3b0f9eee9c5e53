use Rattle.asm_aggregate.specs.Standard.{standard_meaning}
use Rattle.asm_slots.proofs.OwnAgents.{lent}
use Rattle.asm_slots.proofs.owned_agent.OwnedAgent.begin.Goals as goal

pub begin_again_in-requires-after_bounds : goal.begin_again_in-requires-after_bounds
unfolding standard_meaning
begin_again_in-requires-after_bounds c κs = lent _ _ c.self.inside.part c.deref.ensures c.self.invariant
