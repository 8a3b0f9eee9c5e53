use Rattle.asm_aggregate.specs.Standard.{standard_meaning}
use Rattle.asm_play.proofs.aggregator.script_aggregator.Goals as goal

pub returns : goal.returns
unfolding standard_meaning
returns c = c.standard.ensures
