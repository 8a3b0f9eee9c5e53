use Rattle.asm_aggregate.specs.Standard.{standard_meaning}
use Rattle.asm_slots.proofs.composing.composition.Goals as goal

pub returns-clause-ok : goal.returns-clause-ok
unfolding standard_meaning
returns-clause-ok c = record {
  one = c.in_ok-one.one;
  two = c.in_ok-one.two;
  first_reads = c.in_ok-one.ensures.first;
  second_reads = c.in_ok-one.ensures.second;
  composition = c.compose.ensures.composition;
  sequence = c.compose.ensures.sequence;
}
