use Rattle.asm_aggregate.specs.Standard.{standard_meaning}
use Rattle.asm_slots.proofs.members.find_size.Goals as goal

pub returns-clause-size : goal.returns-clause-size
unfolding standard_meaning
returns-clause-size c own = c.in_ok-size.ensures.size c.args.agent.now c.state.ensures.following own
