-- What is read of the folder of a run.
use Rattle.std.specs.Prelude.{◌≡◌, ◌≢◌, ◌⊎◌, ◌↔◌, ℕ, List, [], ◌∷◌, ◌++◌, Some, Result, Ok, Err, IsUtf8}
use Rattle.std.specs.Prelude.{IfOk, IfErr, OnOk, OnErr, IsErrOf}
use Rattle.serde_json.specs.Written.{compact_text}
use Rattle.asm_journal.specs.Text.{state_json_of}
use Rattle.asm_update.specs.State.{State}
use Rattle.asm_run.specs.Name.{IsName}
use Rattle.asm_run.specs.Protocol.{Segment as Saved}
use Rattle.asm_run.specs.Reader.{HasFed, IsRefusedName, IsRefusedText, IsStateAfter}
use Rattle.asm_run.specs.declared.error.ReadError.{ReadError}
use Rattle.asm_run.specs.declared.error.ReadError.TheVariants as read_error
use Rattle.asm_run.specs.declared.name.SegmentName.{SegmentName}
use Rattle.asm_run.specs.declared.trail.Place.TheVariants.{Between, Within, Refused}
use Rattle.asm_slots.specs.Audits.{code_of_audit, counts_of, no_numbers, numbers_of}
use Rattle.asm_slots.specs.declared.audit.AuditNumbers.{AuditNumbers}
use Rattle.asm_slots.specs.declared.codes.Code.{Code}
use Rattle.asm_slots.specs.declared.codes.Code.TheVariants as code
use Rattle.asm_slots.specs.RunView.{RunView, HasReadSo, IsInText}
use Rattle.asm_slots.specs.Standard.{part}
use Rattle.asm_slots.specs.declared.run.Segment.{Segment}

-- all its numbers are 0
abbrev pub no_segment : Segment
no_segment = record { number = 0; first = 0; moves = 0; events = 0 }

-- the numbers in a name
abbrev pub segment_of_name : SegmentName → Segment
segment_of_name n = record { number = n.number; first = n.first; moves = n.moves; events = n.events }

-- the code of a reader's error
abbrev pub code_of_read : ReadError → Code
code_of_read read_error.Memory = code.Memory
code_of_read read_error.Busy = code.Order
code_of_read read_error.Name = code.Name
code_of_read read_error.Number = code.NotNext
code_of_read read_error.Opening = code.Opening
code_of_read read_error.Previous = code.Previous
code_of_read read_error.Many = code.LongRun
code_of_read read_error.Damaged = code.Damaged
code_of_read (read_error.Audit e) = code_of_audit e
code_of_read read_error.Counts = code.Counts

-- the numbers with it
abbrev pub numbers_of_read : ReadError → AuditNumbers
numbers_of_read (read_error.Audit e) = numbers_of e
numbers_of_read _ = no_numbers

-- the call answers this code, and nothing changes
abbrev pub Refuses : Code → Result (Unit {0}) Code → RunView → RunView → Type 0
Refuses c r old new = (r ≡ Err c) × (new ≡ old)

-- what the call answers for a name, by the reader's answer
abbrev pub ReportsName : Result SegmentName ReadError → Result (Unit {0}) Code → Segment → Type 0
ReportsName (Ok n) r found = (r ≡ Ok tt) × (found ≡ segment_of_name n)
ReportsName (Err e) r found = (r ≡ Err (code_of_read e)) × (found ≡ no_segment)

-- the reader takes this name, of a text of so many bytes
pub record TakesName (name : List ℕ) (length : ℕ) (found : Segment) (r : Result (Unit {0}) Code) (old new : RunView) : Type 0 where
  pub answer : Result SegmentName ReadError
  pub reports : ReportsName answer r found
  pub writer : new.writer ≡ old.writer
  pub ok : IfOk answer (λ n. (skipped segments : List Saved) → HasReadSo old skipped segments →
      IsInText new skipped segments name [])
  pub named : IfOk answer (λ n. IsName name n × (n ≡ new.trail.segment.name))
  pub size : OnOk answer (new.trail.segment.length ≡ length)
  pub busy : IsErrOf answer read_error.Busy ↔ (old.trail.place ≢ Between)
  pub error : IfErr answer (IsRefusedName old.trail name length)
  pub unchanged : OnErr answer (new ≡ old)

-- the same of bytes, which may be no text
abbrev pub TakesNameBytes : List ℕ → ℕ → Segment → Result (Unit {0}) Code → RunView → RunView → Type 0
TakesNameBytes name length found r old new =
    TakesName name length found r old new
    ⊎ ((¬ IsUtf8 name) × Refuses code.Name r old new × (found ≡ no_segment))

-- the reader takes these bytes of a text; `end` reports its faults
pub record FeedsText (bytes : List ℕ) (old new : RunView) : Type 0 where
  pub writer : new.writer ≡ old.writer
  pub within : old.trail.place ≡ Within
  pub fed : (skipped segments : List Saved) (title text : List ℕ) → IsInText old skipped segments title text →
      IsInText new skipped segments title (text ++ bytes)

-- it does, or no text comes next
abbrev pub TakesText : List ℕ → Result (Unit {0}) Code → RunView → RunView → Type 0
TakesText bytes r old new =
    ((r ≡ Ok tt) × FeedsText bytes old new)
    ⊎ (Refuses code.Order r old new × (old.trail.place ≢ Within))

-- what the call answers at the end of a text, by the reader's answer
abbrev pub ReportsText : Result (Unit {0}) ReadError → Result (Unit {0}) Code → AuditNumbers → RunView → Type 0
ReportsText (Ok u) r n new = (r ≡ Ok tt) × (counts_of n ≡ new.trail.counts)
ReportsText (Err e) r n new = (r ≡ Err (code_of_read e)) × (n ≡ numbers_of_read e)

-- the text ends: it is the one that was saved and continues the run, or this is its first fault
pub record EndsText (n : AuditNumbers) (r : Result (Unit {0}) Code) (old new : RunView) : Type 0 where
  pub answer : Result (Unit {0}) ReadError
  pub reports : ReportsText answer r n new
  pub writer : new.writer ≡ old.writer
  pub ok : OnOk answer ((skipped segments : List Saved) (title text : List ℕ) →
      IsInText old skipped segments title text →
      HasReadSo new skipped (segments ++ (title, text) ∷ []))
  pub busy : IsErrOf answer read_error.Busy ↔ (old.trail.place ≢ Within)
  pub error : IfErr answer (λ e. (skipped segments : List Saved) (title text : List ℕ) →
      IsInText old skipped segments title text →
      IsRefusedText part old.trail segments text e)
  pub refused : OnErr answer (old.trail.place ≡ Within → new.trail ≡
      record old.trail { place = Refused; segment = new.trail.segment })
  pub unchanged : old.trail.place ≢ Within → new ≡ old

-- the segment ends without its text, which isn't read; no text was
pub record Skips (old new : RunView) : Type 0 where
  pub writer : new.writer ≡ old.writer
  pub ok : (skipped segments : List Saved) (title text any : List ℕ) → IsInText old skipped segments title text →
      HasReadSo new (skipped ++ (title, any) ∷ []) []
  pub none : (skipped segments : List Saved) (title text : List ℕ) → IsInText old skipped segments title text →
      segments ≡ []

-- it does, or no text comes next, or one was read
abbrev pub SkipsText : Result (Unit {0}) Code → RunView → RunView → Type 0
SkipsText r old new =
    ((r ≡ Ok tt) × Skips old new)
    ⊎ (Refuses code.Order r old new
    × ((old.trail.place ≢ Within) ⊎ HasFed old.trail old.fault))

-- the next name may come, and the text is the JSON of the state that the segments leave
abbrev pub IsRunState : RunView → List ℕ → Type 0
IsRunState x text =
    (x.trail.place ≡ Between) × ((S : State) × (text ≡ compact_text (state_json_of S))
    × ((skipped segments : List Saved) → HasReadSo x skipped segments → IsStateAfter part segments (Some S)))

-- no text was read
abbrev pub HasReadNoText : RunView → Type 0
HasReadNoText x = (skipped segments : List Saved) → HasReadSo x skipped segments → segments ≡ []

-- why no state is written: memory was refused, no text was read, or one is open or was refused
abbrev pub IsNoRunState : RunView → Code → Type 0
IsNoRunState x code.Memory = Unit {0}
IsNoRunState x code.NoPart = (x.trail.place ≡ Between) × HasReadNoText x
IsNoRunState x code.Order = x.trail.place ≢ Between
IsNoRunState x _ = ⊥
