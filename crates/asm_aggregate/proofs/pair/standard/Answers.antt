use Rattle.std.proofs.Common.{refl}
use Rattle.asm_aggregate.specs.Standard.{standard_meaning}
use Rattle.asm_aggregate.proofs.pair.standard.Goals as goal

pub returns : goal.returns
unfolding standard_meaning
returns c = refl
