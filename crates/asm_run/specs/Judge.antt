-- Texts of a run that were judged.
use Rattle.std.specs.Prelude.{◌++◌, ℕ, List, Option, Some, None}
use Rattle.asm_update.specs.Fire.{Part}
use Rattle.asm_audit.specs.declared.error.AuditError.{AuditError}
use Rattle.asm_audit.specs.declared.progress.Progress.{Progress}
use Rattle.asm_audit.specs.Fault.{IsFaulty}
use Rattle.asm_audit.specs.Fed.{IsFed}

-- this text was fed, and is legal so far; or whatever comes after it, it has this first fault
abbrev pub Judges : Part → List ℕ → Progress → List ℕ → Option AuditError → Type 0
Judges part text p line None = IsFed part text p line
Judges part text p line (Some e) = (more : List ℕ) → IsFaulty part (text ++ more) e
