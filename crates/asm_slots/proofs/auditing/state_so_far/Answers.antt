use Rattle.std.proofs.Common.{inr, refl}
use Rattle.asm_slots.proofs.auditing.state_so_far.Goals as goal

pub returns-in_ok-state_text-in-Some-clause-ok : goal.returns-in_ok-state_text-in-Some-clause-ok
returns-in_ok-state_text-in-Some-clause-ok c =
    (c.in-Some.left, rw c.in-Some.is at c.in_ok-left.ensures, c.in_ok-state_text-in-Some.ensures)

pub returns-in-None-clause-err : goal.returns-in-None-clause-err
returns-in-None-clause-err c = inr (refl, rw c.in-None.is at c.in_ok-left.ensures)
