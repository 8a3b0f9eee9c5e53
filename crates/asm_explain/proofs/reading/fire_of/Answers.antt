use Rattle.asm_explain.proofs.Misread.{misread_fire}
use Rattle.asm_explain.proofs.reading.fire_of.Goals as goal

pub returns-clause-err : goal.returns-clause-err
returns-clause-err c = misread_fire c.args.bytes.now c.in-Err.error c.in-Err.ensures.err
