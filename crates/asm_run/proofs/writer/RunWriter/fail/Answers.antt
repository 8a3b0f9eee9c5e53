use Rattle.std.proofs.Common.{refl}
use Rattle.asm_run.proofs.After as after
use Rattle.asm_run.proofs.writer.RunWriter.fail.Goals as goal

pub returns-clause-fails : goal.returns-clause-fails
returns-clause-fails c = λ part events d h may. after.fails part _ _ events d h may refl
