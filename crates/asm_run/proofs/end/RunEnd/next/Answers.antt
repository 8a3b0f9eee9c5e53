use Rattle.std.proofs.Common.{refl}
use Rattle.asm_run.proofs.end.RunEnd.next.Goals as goal

pub returns-then-not-may_precede-clause-error : goal.returns-then-not-may_precede-clause-error
returns-then-not-may_precede-clause-error c = c.if-not-may_precede.ensures.no refl
