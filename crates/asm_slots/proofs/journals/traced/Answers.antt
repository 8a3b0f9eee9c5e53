use Rattle.asm_aggregate.specs.Standard.{standard_meaning}
use Rattle.asm_slots.proofs.journals.traced.Goals as goal

pub returns-in-Ok-clause-ok : goal.returns-in-Ok-clause-ok
unfolding standard_meaning
returns-in-Ok-clause-ok c = record {
  history = c.in_ok-history.history;
  reads = c.in_ok-history.ensures.ok;
  trace = c.in-Ok.ensures;
}
