-- What audits in slots do.
use Rattle.std.specs.Prelude.{◌≡◌, ◌⊎◌, ℕ, List, Option, None, Some, Result, Ok, Err, IfErr}
use Rattle.serde_json.specs.Written.{compact_text}
use Rattle.asm_update.specs.State.{State}
use Rattle.asm_journal.specs.Text.{state_json_of}
use Rattle.asm_audit.specs.declared.error.AuditError.{AuditError}
use Rattle.asm_audit.specs.declared.error.AuditError.TheVariants.{Journal, Apart, Illegal, LongLine, Memory}
use Rattle.asm_audit.specs.declared.progress.Counts.{Counts}
use Rattle.asm_audit.specs.Audited.{IsFormFault}
use Rattle.asm_audit.specs.Fed.{FeedsFirst, IsFedAnswer, IsFedEnd}
use Rattle.asm_audit.specs.SoFar.{AreFedSoFar, IsFedStateSoFar}
use Rattle.asm_slots.specs.AuditView.{AuditView}
use Rattle.asm_slots.specs.Journals.{code_of_journal, line_of}
use Rattle.asm_slots.specs.declared.codes.Code.{Code}
use Rattle.asm_slots.specs.declared.codes.Code.TheVariants as code
use Rattle.asm_slots.specs.Slots.{ChangesAudit, HasRoomFor, Holds, Lacks, an_audit}
use Rattle.asm_slots.specs.Standard.{part}
use Rattle.asm_slots.specs.declared.audit.AuditNumbers.{AuditNumbers}
use Rattle.asm_slots.specs.declared.content.Content.{Content}

-- the numbers of segments, calls and moves, as an audit has them
abbrev pub counts_of : AuditNumbers → Counts
counts_of n = record { calls = n.calls; moves = n.moves; parts = n.parts }

-- all of them are 0
abbrev pub no_numbers : AuditNumbers
no_numbers = record { parts = 0; calls = 0; moves = 0 }

-- the code of an audit's error
abbrev pub code_of_audit : AuditError → Code
code_of_audit (Journal j fault) = code_of_journal fault
code_of_audit (Illegal j c) = code.Illegal
code_of_audit (Apart j) = code.Apart
code_of_audit LongLine = code.LongLine
code_of_audit Memory = code.Memory

-- its numbers: those of the segment, and of the line at fault or the call with the wrong answer, or 0
abbrev pub numbers_of : AuditError → AuditNumbers
numbers_of (Journal j fault) = record { parts = j; calls = line_of fault; moves = 0 }
numbers_of (Illegal j c) = record { parts = j; calls = c; moves = 0 }
numbers_of (Apart j) = record { parts = j; calls = 0; moves = 0 }
numbers_of _ = no_numbers

-- what a call answers for this error
abbrev pub ReportsAuditError : AuditError → Result (Unit {0}) Code → AuditNumbers → Type 0
ReportsAuditError e r n = (r ≡ Err (code_of_audit e)) × (n ≡ numbers_of e)

-- what it answers to bytes
abbrev pub ReportsAnswer : Result (Unit {0}) AuditError → Result (Unit {0}) Code → AuditNumbers → Type 0
ReportsAnswer (Ok u) r n = r ≡ Ok tt
ReportsAnswer (Err e) r n = ReportsAuditError e r n

-- what it answers at the end, with the numbers of the complete run
abbrev pub ReportsEnd : Result Counts AuditError → Result (Unit {0}) Code → AuditNumbers → Type 0
ReportsEnd (Ok w) r n = (r ≡ Ok tt) × (counts_of n ≡ w)
ReportsEnd (Err e) r n = ReportsAuditError e r n

-- exactly the first `taken` of the bytes were read; this is the answer to all of the bytes, whatever bytes follow;
-- and if all is right, these are the numbers so far
pub record HasAudited (bytes : List ℕ) (taken : ℕ) (n : AuditNumbers) (r : Result (Unit {0}) Code) (old new : AuditView) : Type 0 where
  pub answer : Result (Unit {0}) AuditError
  pub reports : ReportsAnswer answer r n
  pub reported : IsFedAnswer part bytes old.progress old.line new.progress new.line answer
  pub first : FeedsFirst part bytes old.progress old.line new.progress new.line taken answer
  pub counts : r ≡ Ok tt → AreFedSoFar part new.progress new.line (counts_of n)

-- the bytes are fed to the audit of the slot, or to a new one in the empty slot; or nothing changes, as there was no
-- memory to make one, or the slot holds something else
abbrev pub Audits : List ℕ → Option Content → Option Content → ℕ → AuditNumbers → Result (Unit {0}) Code → Type 0
Audits bytes audit after taken n r =
    ChangesAudit audit after (HasAudited bytes taken n r)
    ⊎ ((after ≡ audit) × (taken ≡ 0) × (n ≡ no_numbers)
    × (((audit ≡ None) × (r ≡ Err code.Memory)) ⊎ ((¬ HasRoomFor an_audit audit) × (r ≡ Err code.Taken))))

-- the answer if no byte follows: the run is complete and legal, or this is its fault, which is no wrong answer
pub record HasEnd (n : AuditNumbers) (r : Result (Unit {0}) Code) (a : AuditView) : Type 0 where
  pub answer : Result Counts AuditError
  pub reports : ReportsEnd answer r n
  pub reported : IsFedEnd part a.progress a.line answer
  pub form : IfErr answer IsFormFault

-- that of the slot's audit, if it holds one
abbrev pub EndsAudit : Option Content → AuditNumbers → Result (Unit {0}) Code → Type 0
EndsAudit audit n r =
    Holds an_audit audit (HasEnd n r) ⊎ (Lacks an_audit audit × (n ≡ no_numbers) × (r ≡ Err code.Empty))

-- the text is the JSON of the state that the moves of the lines that have ended leave
abbrev pub IsAuditState : AuditView → List ℕ → Type 0
IsAuditState a text =
    (S : State) × IsFedStateSoFar part a.progress a.line (Some S) × (text ≡ compact_text (state_json_of S))

-- no segment has begun
abbrev pub HasNoState : AuditView → Type 0
HasNoState a = IsFedStateSoFar part a.progress a.line None
