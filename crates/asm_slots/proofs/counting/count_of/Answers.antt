use Rattle.asm_aggregate.specs.Standard.{standard_meaning}
use Rattle.asm_slots.proofs.counting.count_of.Goals as goal

pub returns-clause-count : goal.returns-clause-count
unfolding standard_meaning
returns-clause-count c own = c.in_ok-count.ensures.count c.args.agent.now c.state.ensures.following own
