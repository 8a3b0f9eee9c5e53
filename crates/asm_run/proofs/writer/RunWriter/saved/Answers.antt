use Rattle.asm_run.proofs.After as after
use Rattle.asm_run.proofs.writer.RunWriter.saved.Goals as goal

pub returns-clause-saved : goal.returns-clause-saved
returns-clause-saved c = λ part events h. after.is_saved part _ events h

pub returns-clause-safe : goal.returns-clause-safe
returns-clause-safe c = λ part events h. after.is_safe part _ events h
