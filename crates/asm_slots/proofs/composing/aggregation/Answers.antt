use Rattle.asm_aggregate.specs.Standard.{standard_meaning}
use Rattle.asm_slots.proofs.composing.aggregation.Goals as goal

pub returns-clause-ok : goal.returns-clause-ok
unfolding standard_meaning
returns-clause-ok c = record {
  old = c.in_ok-old.old;
  move = c.in_ok-old.step;
  state_reads = c.in_ok-old.ensures.first;
  move_reads = c.in_ok-old.ensures.second;
  aggregate = c.aggregate.ensures;
}
