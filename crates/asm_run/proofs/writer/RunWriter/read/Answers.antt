use Rattle.std.proofs.Common.{refl}
use Rattle.asm_run.proofs.After as after
use Rattle.asm_run.proofs.writer.RunWriter.read.Goals as goal

pub returns-clause-ok : goal.returns-clause-ok
returns-clause-ok c = λ part events segments h may is. after.reads part _ _ c.args.found events segments h may is refl
    refl

pub returns-clause-found : goal.returns-clause-found
returns-clause-found c = λ part events segments h may. after.finds part _ events c.args.found.first segments h may

pub returns-clause-legal : goal.returns-clause-legal
returns-clause-legal c = λ part events segments h may. after.found_legal part _ events c.args.found.first segments h
    may
