use Rattle.asm_aggregate.specs.Standard.{standard_meaning}
use Rattle.asm_slots.proofs.getting_all.copied_text.Goals as goal

pub returns-clause-text : goal.returns-clause-text
unfolding standard_meaning
returns-clause-text c = (
  c.in_ok-found.found,
  c.proper.ensures,
  (λ own. c.in_ok-found.ensures.found c.args.agent.now c.state.ensures.following own),
  c.in_ok-state_text.ensures,
)
