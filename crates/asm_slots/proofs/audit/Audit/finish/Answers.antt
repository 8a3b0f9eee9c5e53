use Rattle.std.proofs.Common.{subst}
use Rattle.asm_aggregate.specs.Standard.{standard_meaning}
use Rattle.asm_audit.specs.Fed.{IsFedEnd}
use Rattle.asm_slots.specs.AuditView.{AuditView}
use Rattle.asm_slots.specs.Standard.{part}
use Rattle.asm_slots.proofs.audit.Audit.finish.Goals as goal

pub returns-clause-answer : goal.returns-clause-answer
unfolding standard_meaning
returns-clause-answer c =
    subst (λ (a : AuditView). IsFedEnd part a.progress a.line c.finish.result) c.self.view_is
    (subst (λ x. IsFedEnd part x.auditor.progress x.line.items c.finish.result) c.deref_mut.ensures.value c.finish.ensures.answer)
