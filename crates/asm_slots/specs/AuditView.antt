-- What contracts see of an audit in a slot.
use Rattle.std.specs.Prelude.{ℕ, List, refl}
use Rattle.std.specs.Coded.{Coded, code_by, coded×, coded_ℕ, coded_list}
use Rattle.asm_audit.specs.declared.progress.Progress.{Progress}
use Rattle.asm_audit.specs.Fed.{IsFed}
use Rattle.asm_slots.specs.Standard.{part}

-- how far the lines that have ended were read, and the bytes of the line that hasn't
pub record AuditView : Type 0 where
  pub progress : Progress
  pub line : List ℕ

-- it is stored as a tuple
abbrev pub audit_code : Coded Progress → Coded AuditView
audit_code p =
    code_by (Progress × List ℕ) (coded× p (coded_list coded_ℕ)) (λ a. (a.progress, a.line))
    (λ t. record { progress = t.0; line = t.1 }) (λ _. refl)

-- the audit was fed this text, which is legal so far
abbrev pub WasFed : List ℕ → AuditView → Type 0
WasFed text a = IsFed part text a.progress a.line
