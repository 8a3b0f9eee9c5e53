use Rattle.std_alloc.specs.Arc.{arc_value}
use Rattle.asm_aggregate.specs.Standard.{standard_meaning}
use Rattle.asm_slots.proofs.OwnAgents.{lent, lent_other}
use Rattle.asm_slots.proofs.owned_agent.OwnedAgent.take_state.Goals as goal

pub take_state-requires-clause-part : goal.take_state-requires-clause-part
unfolding standard_meaning
take_state-requires-clause-part c κs = lent _ _ c.self.inside.part c.deref.ensures c.self.invariant

pub take_state-requires-clause-other : goal.take_state-requires-clause-other
unfolding standard_meaning
take_state-requires-clause-other c κs =
    lent_other (arc_value c.self.inside.shared) c.deref.result.now (arc_value c.other.inside.shared) c.self.inside.part c.other.inside.part
    c.args.self.now c.args.other.now c.deref.ensures c.self.view_is c.other.view_is c.requires c.other.invariant
