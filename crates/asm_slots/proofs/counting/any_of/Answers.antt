use Rattle.asm_aggregate.specs.Standard.{standard_meaning}
use Rattle.asm_slots.proofs.counting.any_of.Goals as goal

pub returns-clause-any : goal.returns-clause-any
unfolding standard_meaning
returns-clause-any c own = c.in_ok-any.ensures.any c.args.agent.now c.state.ensures.following own
