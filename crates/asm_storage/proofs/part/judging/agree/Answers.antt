use Rattle.asm_storage.proofs.SureFires.{agree_by}
use Rattle.asm_storage.proofs.part.judging.agree.Goals as goal

pub returns : goal.returns
returns c = agree_by c.args.instrs.now c.consistent.result c.is_none.result c.is_none.ensures c.consistent.ensures
