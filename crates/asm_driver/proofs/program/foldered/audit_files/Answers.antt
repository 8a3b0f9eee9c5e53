use Rattle.std.proofs.Common.{refl}
use Rattle.asm_driver.proofs.Folders.{audited_legal, audited_refusal, audited_cut}
use Rattle.asm_driver.proofs.program.foldered.audit_files.Goals as goal

pub returns-in-Ok-clause-audits : goal.returns-in-Ok-clause-audits
returns-in-Ok-clause-audits g c =
    audited_legal c.args.every _ _ _ _ _ _ _ _ _ c.in-Ok.audited c.in-Ok.ensures.audited c.write_audited.ensures.writes

pub returns-in-Refused-clause-audits : goal.returns-in-Refused-clause-audits
returns-in-Refused-clause-audits g c =
    audited_refusal c.args.every _ _ _ _ _ _ _ _ _ c.in-Refused.refusal
    (rw c.in-Refused.is at c.in-Err.ensures.audited) c.refuse.ensures.refuses

pub returns-clause-audits : goal.returns-clause-audits
returns-clause-audits g c =
    audited_cut c.args.every _ _ _ _ _ _ _ _ (rw c.in-Unwritten.is at c.in-Err.ensures.audited)
    (rw c.in-Unwritten.is at c.in-Err.ensures.noted) refl
