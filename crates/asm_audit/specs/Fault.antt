-- The first fault of a run.
use Rattle.std.specs.Prelude.{◌≡◌, ◌≢◌, ◌<◌, ◌≤◌, ◌+◌, ◌⊎◌, ℕ, List, [], length, min}
use Rattle.asm_update.specs.Fire.{Part}
use Rattle.asm_update.specs.State.{State}
use Rattle.asm_storage.specs.declared.history.History.{History}
use Rattle.asm_journal.specs.Check.{machine_of, IsFirstWrong}
use Rattle.asm_journal.specs.declared.error.JournalError.{JournalError}
use Rattle.asm_journal.specs.declared.error.JournalError.TheVariants as journal_error
use Rattle.asm_journal.specs.Fault.{BreaksHeader, BreaksEvent}
use Rattle.asm_audit.specs.declared.error.AuditError.{AuditError}
use Rattle.asm_audit.specs.declared.error.AuditError.TheVariants.{Journal, Apart, Illegal, LongLine, Memory}
use Rattle.asm_audit.specs.Text.{IsBegun, BeginsWithLong}
use Rattle.asm_audit.specs.Chain.{last_left, HasLegal, IsGoing}

-- the number as it is counted, up to 2^64 - 1
abbrev pub counted : ℕ → ℕ
counted n = min n 18446744073709551615

-- the error for a fault of the journal of the part with this number
abbrev pub part_fault : ℕ → JournalError → AuditError
part_fault j (journal_error.NotJson k) = Journal j (journal_error.NotJson k)
part_fault j (journal_error.Shape k) = Journal j (journal_error.Shape k)
part_fault j journal_error.Version = Journal j journal_error.Version
part_fault j journal_error.Cut = Journal j journal_error.Cut
part_fault j journal_error.Memory = Memory

-- after complete parts the text has a line at fault: that of a header, which may be missing before the first part
-- alone, or that of an event, after a header and legal events
abbrev pub BreaksNext : Part → State → List History → List ℕ → JournalError → Type 0
BreaksNext part first before text fault =
    (BreaksHeader text fault × (text ≡ [] → before ≡ []))
    ⊎ ((v count : ℕ) × (h : History) × (rest : List ℕ) × IsGoing part (last_left part first before) v count h text rest
    × (length h.events < count) × BreaksEvent v h.agents (length h.events + 2) rest fault)

-- after complete parts, at least one, a header opens with another state than the last one leaves
abbrev pub OpensMismatched : Part → State → List History → List ℕ → Type 0
OpensMismatched part first before text =
    (before ≢ []) × ((v count : ℕ) × (h : History) × (rest : List ℕ) × IsBegun v count h text rest
    × (h.events ≡ []) × (h.init ≢ last_left part first before))

-- after complete parts the text has one that continues them, and the event with this number is the first of it whose
-- answer isn't the one that a sequential storage gives
abbrev pub HasWrong : Part → ℕ → State → List History → List ℕ → Type 0
HasWrong part c first before text =
    (v count : ℕ) × (h : History) × (rest : List ℕ) × IsBegun v count h text rest × (length h.events ≤ count)
    × (h.init ≡ last_left part first before) × IsFirstWrong (machine_of part h) h.events c

-- after complete parts the text has a line that is too long, as that of a header or after a header and legal events
abbrev pub HasLong : Part → State → List History → List ℕ → Type 0
HasLong part first before text =
    BeginsWithLong text
    ⊎ ((v count : ℕ) × (h : History) × (rest : List ℕ) × IsGoing part (last_left part first before) v count h text rest
    × BeginsWithLong rest)

-- the text is this many complete legal parts that continue one another, and then a rest of which `Next` holds
pub record IsBehind (part : Part) (text : List ℕ) (number : ℕ) (Next : State → List History → List ℕ → Type 0) : Type 0
  where
    pub first : State
    pub before : List History
    pub rest : List ℕ
    pub has : HasLegal part first before text rest
    pub numbered : number ≡ counted (length before)
    pub next : Next first before rest

-- the call with number c, in the part with number j, is the first of the text whose answer is wrong
abbrev pub IsFirstIllegal : Part → List ℕ → ℕ → ℕ → Type 0
IsFirstIllegal part text j c = IsBehind part text j (HasWrong part c)

-- the text has this fault after complete legal parts; refused memory says nothing of the text
abbrev pub IsFaulty : Part → List ℕ → AuditError → Type 0
IsFaulty part text (Journal j fault) =
    (fault ≢ journal_error.Memory) × IsBehind part text j (λ A before rest. BreaksNext part A before rest fault)
IsFaulty part text (Apart j) = IsBehind part text j (OpensMismatched part)
IsFaulty part text (Illegal j c) = IsFirstIllegal part text j c
IsFaulty part text LongLine = (j : ℕ) × IsBehind part text j (HasLong part)
IsFaulty part text Memory = Unit {0}
