-- What an audit of a run reports.
use Rattle.std.specs.Prelude.{ℕ, Bool, true, false, List, ◌++◌, codes, Result, Ok, Err}
use Rattle.std.specs.Fmt.{decimal}
use Rattle.asm_audit.specs.Audited.{IsVerdict}
use Rattle.asm_audit.specs.declared.error.AuditError.{AuditError}
use Rattle.asm_audit.specs.declared.error.AuditError.TheVariants.{Journal, Apart, Illegal, LongLine, Memory}
use Rattle.asm_audit.specs.declared.progress.Counts.{Counts}
use Rattle.asm_aggregate.specs.Standard.{standard_part}
use Rattle.asm_driver.specs.Report.{line}
use Rattle.asm_driver.specs.declared.program.refusal.Refusal.{Refusal}
use Rattle.asm_driver.specs.declared.program.refusal.Refusal.TheVariants as refusal

-- legal CALLS MOVES PARTS
abbrev pub legal_line : Counts → List ℕ
legal_line w =
    line (codes "legal " ++ decimal w.calls ++ codes " " ++ decimal w.moves ++ codes " " ++ decimal w.parts)

-- the refusal made from an audit's error
abbrev pub refusal_of_audit : AuditError → Refusal
refusal_of_audit (Journal part fault) = refusal.BadPart part fault
refusal_of_audit (Apart part) = refusal.Apart part
refusal_of_audit (Illegal part call) = refusal.Illegal part call
refusal_of_audit LongLine = refusal.TooLarge
refusal_of_audit Memory = refusal.Memory

-- why a run of this text is refused: a fault of its form, a wrong answer, or a line that is too long; nothing is
-- claimed of a failed read and an allocation failure
abbrev pub IsBadRun : List ℕ → Refusal → Type 0
IsBadRun text (refusal.BadPart part fault) = IsVerdict standard_part text (Err (Journal part fault))
IsBadRun text (refusal.Apart part) = IsVerdict standard_part text (Err (Apart part))
IsBadRun text (refusal.Illegal part call) = IsVerdict standard_part text (Err (Illegal part call))
IsBadRun text refusal.TooLarge = IsVerdict standard_part text (Err LongLine)
IsBadRun text refusal.InputFault = Unit {0}
IsBadRun text refusal.Memory = Unit {0}
IsBadRun text r = ⊥

-- what an audit of a run of this text reports
abbrev pub IsAuditOf : List ℕ → Result Counts Refusal → Type 0
IsAuditOf text (Ok w) = IsVerdict standard_part text (Ok w)
IsAuditOf text (Err r) = IsBadRun text r

-- whether a failed read ended the audit
abbrev pub is_failed_read : Result Counts Refusal → Bool
is_failed_read (Err refusal.InputFault) = true
is_failed_read _ = false
