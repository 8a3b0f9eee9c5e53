-- What an audit has read, and what it reports.
use Rattle.std.specs.Prelude.{◌≡◌, ◌≢◌, ◌+◌, ℕ, List, [], ◌∷◌, ◌++◌, length, Option, Some, None, Result, Ok, Err}
use Rattle.asm_update.specs.Fire.{Part}
use Rattle.asm_update.specs.State.{State}
use Rattle.asm_storage.specs.History.{fired_moves}
use Rattle.asm_storage.specs.declared.history.History.{History}
use Rattle.asm_journal.specs.declared.error.JournalError.TheVariants as journal_error
use Rattle.asm_audit.specs.declared.error.AuditError.{AuditError}
use Rattle.asm_audit.specs.declared.error.AuditError.TheVariants.{Journal, Illegal}
use Rattle.asm_audit.specs.declared.error.AuditInputError.{AuditInputError}
use Rattle.asm_audit.specs.declared.error.AuditInputError.TheVariants.{Audit, Input}
use Rattle.asm_audit.specs.declared.part_auditor.PartAuditor.{PartAuditor}
use Rattle.asm_audit.specs.declared.progress.Progress.{Progress}
use Rattle.asm_audit.specs.declared.progress.Counts.{Counts}
use Rattle.asm_audit.specs.Text.{IsLineBefore, HasLineFeed, HasShortLines}
use Rattle.asm_audit.specs.Chain.{last_left, HasLegal}
use Rattle.asm_audit.specs.Fault.{counted, IsFaulty}
use Rattle.asm_audit.specs.PartAuditor.{IsReading}

-- how many calls the histories have
abbrev pub calls_of : List History → ℕ
calls_of [] = 0
calls_of (h ∷ hs) = length h.events + calls_of hs

-- how many fired moves they have
abbrev pub moves_of : List History → ℕ
moves_of [] = 0
moves_of (h ∷ hs) = length (fired_moves h.events) + moves_of hs

-- the numbers are those of the histories
abbrev pub AreCounts : List History → Counts → Type 0
AreCounts hs w =
    (w.calls ≡ counted (calls_of hs)) × (w.moves ≡ counted (moves_of hs)) × (w.parts ≡ counted (length hs))

-- after complete parts the text is the beginning of the part that is being read; there is none before the first
-- header
abbrev pub IsRead : Part → State → List History → List ℕ → Option PartAuditor → Type 0
IsRead part first before text None = (before ≡ []) × (text ≡ [])
IsRead part first before text (Some o) =
    IsReading part (last_left part first before) (counted (length before)) text o

-- the text was read: it is complete legal parts that continue one another, and the beginning of the next one
pub record IsAudited (part : Part) (text : List ℕ) (p : Progress) : Type 0 where
  pub first : State
  pub before : List History
  pub rest : List ℕ
  pub has : HasLegal part first before text rest
  pub counts : AreCounts before p.before
  pub next : IsRead part first before rest p.current

-- the text is complete legal parts that continue one another, at least one, and these are their numbers
pub record IsWhole (part : Part) (text : List ℕ) (w : Counts) : Type 0 where
  pub first : State
  pub all : List History
  pub has : HasLegal part first all text []
  pub some : all ≢ []
  pub counts : AreCounts all w

-- what a line reports that is taken after any text that was read: with it too all is legal, and was read; or,
-- whatever comes after the line, the complete text has this first wrong answer, or this fault
abbrev pub IsLineAnswer : Part → List ℕ → Progress → Progress → Result (Unit {0}) AuditError → Type 0
IsLineAnswer part line old new (Ok u) = (text : List ℕ) → IsAudited part text old → IsAudited part (text ++ line) new
IsLineAnswer part line old new (Err e) = (text rest : List ℕ) → IsAudited part text old →
    IsLineBefore line rest → IsFaulty part (text ++ (line ++ rest)) e

-- a line that is taken, or whose answer is wrong, has a line feed
abbrev pub JudgesEnded : List ℕ → Result (Unit {0}) AuditError → Type 0
JudgesEnded line (Ok u) = HasLineFeed line
JudgesEnded line (Err (Illegal j c)) = HasLineFeed line
JudgesEnded line (Err e) = Unit {0}

-- the error isn't that of a wrong answer
abbrev pub IsFormFault : AuditError → Type 0
IsFormFault (Illegal j c) = ⊥
IsFormFault e = Unit {0}

-- what the end reports of any text that was read
abbrev pub IsEnd : Part → Progress → Result Counts AuditError → Type 0
IsEnd part p (Ok w) = (text : List ℕ) → IsAudited part text p → IsWhole part text w
IsEnd part p (Err e) = (text : List ℕ) → IsAudited part text p → IsFaulty part text e

-- the end reports no other error than that the part is cut
abbrev pub IsCutEnd : Result Counts AuditError → Type 0
IsCutEnd (Ok w) = Unit {0}
IsCutEnd (Err e) = (j : ℕ) × (e ≡ Journal j journal_error.Cut)

-- what is reported of a complete text; of a legal one no line is too long
abbrev pub IsVerdict : Part → List ℕ → Result Counts AuditError → Type 0
IsVerdict part text (Ok w) = IsWhole part text w × HasShortLines text
IsVerdict part text (Err e) = IsFaulty part text e

-- what is reported of an input that had this text; a failed read says nothing of it
abbrev pub IsInputVerdict : Part → List ℕ → Result Counts AuditInputError → Type 0
IsInputVerdict part text (Ok w) = IsVerdict part text (Ok w)
IsInputVerdict part text (Err (Audit e)) = IsVerdict part text (Err e)
IsInputVerdict part text (Err Input) = Unit {0}
