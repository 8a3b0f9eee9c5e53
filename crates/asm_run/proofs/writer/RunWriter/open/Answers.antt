use Rattle.std.proofs.Common.{refl}
use Rattle.asm_run.proofs.After as after
use Rattle.asm_run.proofs.writer.RunWriter.open.Goals as goal

pub returns-clause-after : goal.returns-clause-after
returns-clause-after c = λ part events may ended. after.opens part _ events may ended refl
