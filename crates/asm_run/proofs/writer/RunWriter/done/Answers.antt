use Rattle.std.proofs.Common.{refl}
use Rattle.asm_run.proofs.After as after
use Rattle.asm_run.proofs.writer.RunWriter.done.Goals as goal

pub returns-clause-done : goal.returns-clause-done
returns-clause-done c = λ part events h work. after.dones part _ _ events h work c.next-self.ensures
    c.saved_then-saved.ensures refl
