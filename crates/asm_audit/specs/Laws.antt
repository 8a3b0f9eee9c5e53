-- The laws of audits.
use Rattle.std.specs.Prelude.{◌≡◌, ◌↔◌, ℕ, List, Option, Result, Ok, Err}
use Rattle.asm_update.specs.Fire.{Part}
use Rattle.asm_storage.specs.declared.history.History.{History}
use Rattle.asm_journal.specs.Check.{machine_of, IsLegality}
use Rattle.asm_journal.specs.declared.checking.Legality.TheVariants.{Legal, Illegal}
use Rattle.asm_journal.specs.declared.error.JournalError.{JournalError}
use Rattle.asm_journal.specs.Fault.{IsRefused}
use Rattle.asm_journal.specs.Reading.{ReadsAs}
use Rattle.asm_audit.specs.declared.error.AuditError.{AuditError}
use Rattle.asm_audit.specs.declared.error.AuditError.TheVariants.{Journal, Apart, LongLine, Memory}
use Rattle.asm_audit.specs.declared.error.AuditError.TheVariants as audit_error
use Rattle.asm_audit.specs.Fault.{IsFirstIllegal, IsFaulty}
use Rattle.asm_update.specs.State.{State}
use Rattle.asm_audit.specs.Chain.{HasLegal}
use Rattle.asm_audit.specs.Run.{IsOneRun}
use Rattle.asm_audit.specs.SoFar.{HasCounts, HasState}
use Rattle.asm_audit.specs.declared.progress.Counts.{Counts}
use Rattle.asm_audit.specs.Audited.{IsWhole, IsVerdict}

-- A text is one legal part with these numbers exactly if it reads as a history that the check finds legal, with the
-- same numbers.
abbrev pub OneLegal : Type 0
OneLegal = (part : Part) (text : List ℕ) (calls moves : ℕ) →
    IsWhole part text (record { calls = calls; moves = moves; parts = 1 })
    ↔ ((h : History) × ReadsAs text h × IsLegality (machine_of part h) h.events (Legal calls moves))

-- If a text reads as a history, a call is the first of the first part whose answer is wrong exactly if the check
-- reports it.
abbrev pub OneIllegal : Type 0
OneIllegal = (part : Part) (text : List ℕ) (h : History) (call : ℕ) → ReadsAs text h →
    (IsFirstIllegal part text 0 call ↔ IsLegality (machine_of part h) h.events (Illegal call))

-- A fault of the first part is one of the text as a journal, which `from_text` reports too.
abbrev pub FirstFault : Type 0
FirstFault = (part : Part) (text : List ℕ) (fault : JournalError) → IsFaulty part text (Journal 0 fault) → IsRefused text fault

-- the report is on the calls or on the form of the text: no memory was refused, and no line was too long
abbrev pub IsOfText : Result Counts AuditError → Type 0
IsOfText (Ok w) = Unit {0}
IsOfText (Err (Journal j fault)) = Unit {0}
IsOfText (Err (Apart j)) = Unit {0}
IsOfText (Err (audit_error.Illegal j c)) = Unit {0}
IsOfText (Err LongLine) = ⊥
IsOfText (Err Memory) = ⊥

-- One thing alone is reported of a text.
abbrev pub OneVerdict : Type 0
OneVerdict = (part : Part) (text : List ℕ) (r s : Result Counts AuditError) → IsOfText r → IsOfText s →
    IsVerdict part text r → IsVerdict part text s → r ≡ s

-- The moves of complete legal parts that continue one another are one run from the state with which the first opens.
abbrev pub OneRun : Type 0
OneRun = (part : Part) (A : State) (hs : List History) (text rest : List ℕ) → HasLegal part A hs text rest →
    IsOneRun part A hs

-- What was read has one number of calls, of moves and of complete parts.
abbrev pub OneCount : Type 0
OneCount = (part : Part) (text : List ℕ) (w x : Counts) → HasCounts part text w → HasCounts part text x → w ≡ x

-- It also has one state that all its moves leave.
abbrev pub OneState : Type 0
OneState = (part : Part) (text : List ℕ) (s t : Option State) → HasState part text s → HasState part text t → s ≡ t
