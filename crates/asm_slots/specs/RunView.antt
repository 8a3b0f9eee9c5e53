-- What contracts see of a run in a slot.
use Rattle.std.specs.Prelude.{◌≡◌, ℕ, List, Option, refl}
use Rattle.std.specs.Coded.{Coded, code_by, coded×, coded_ℕ, coded_list, coded_option}
use Rattle.asm_audit.specs.declared.error.AuditError.{AuditError}
use Rattle.asm_audit.specs.declared.progress.Progress.{Progress}
use Rattle.asm_run.specs.Protocol.{Segment as Saved}
use Rattle.asm_run.specs.Reader.{HasReadParts, IsWithinParts}
use Rattle.asm_run.specs.declared.trail.Trail.{Trail}
use Rattle.asm_run.specs.declared.writer.RunWriter.{RunWriter}
use Rattle.asm_slots.specs.Standard.{part}

-- how far the texts were read, the bytes of the line that hasn't ended, and the first fault; how far the names, digests and
-- counts were; and the writer
pub record RunView : Type 0 where
  pub progress : Progress
  pub line : List ℕ
  pub fault : Option AuditError
  pub trail : Trail
  pub writer : RunWriter

-- it is stored as a tuple
abbrev pub run_code : Coded Progress → Coded AuditError → Coded Trail → Coded RunWriter → Coded RunView
run_code p e t w =
    code_by (Progress × (List ℕ × (Option AuditError × (Trail × RunWriter))))
    (coded× p (coded× (coded_list coded_ℕ) (coded× (coded_option e) (coded× t w))))
    (λ x. (x.progress, (x.line, (x.fault, (x.trail, x.writer)))))
    (λ c. record { progress = c.0; line = c.1.0; fault = c.1.1.0; trail = c.1.1.1.0; writer = c.1.1.1.1 }) (λ _. refl)

-- these segments were read, of which the first were skipped: their texts are unknown
abbrev pub HasReadSo : RunView → List Saved → List Saved → Type 0
HasReadSo x skipped segments = HasReadParts part x.trail x.progress x.line x.fault skipped segments

-- they were, and these bytes of the next one, which has this title
abbrev pub IsInText : RunView → List Saved → List Saved → List ℕ → List ℕ → Type 0
IsInText x skipped segments title text =
    IsWithinParts part x.trail x.progress x.line x.fault skipped segments title text

-- what was read is unchanged
abbrev pub HasSameReader : RunView → RunView → Type 0
HasSameReader old new = new ≡ record old { writer = new.writer }
