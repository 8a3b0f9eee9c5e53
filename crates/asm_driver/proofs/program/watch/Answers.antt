use Rattle.std.proofs.Common.{refl}
use Rattle.asm_driver.proofs.Ending.{watched_legal, watched_refusal, watched_cut}
use Rattle.asm_driver.proofs.program.watch.Goals as goal

pub returns-in-Ok-clause-watches : goal.returns-in-Ok-clause-watches
returns-in-Ok-clause-watches g c =
    watched_legal c.args.every _ _ _ _ _ _ _ _ _ c.in-Ok.counts c.in-Ok.ensures.reported c.write_legal.ensures.writes

pub returns-in-Refused-clause-watches : goal.returns-in-Refused-clause-watches
returns-in-Refused-clause-watches g c =
    watched_refusal c.args.every _ _ _ _ _ _ _ _ _ c.in-Refused.refusal
    (rw c.in-Refused.is at c.in-Err.ensures.reported) c.refuse.ensures.refuses

pub returns-in-Unwritten-clause-watches : goal.returns-in-Unwritten-clause-watches
returns-in-Unwritten-clause-watches g c =
    watched_cut c.args.every _ _ _ _ _ _ _ _ (rw c.in-Unwritten.is at c.in-Err.ensures.reported)
    (rw c.in-Unwritten.is at c.in-Err.ensures.noted) refl
