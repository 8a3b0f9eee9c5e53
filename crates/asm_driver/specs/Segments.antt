-- How the segments in a run's folder are read, from the first byte of each to its last.
use Rattle.std.specs.Prelude.{◌≡◌, ◌≢◌, ◌⊎◌, ℕ, Bool, false, List, [], ◌∷◌, ◌++◌}
use Rattle.std.specs.Prelude.{Option, Result, Ok, Err}
use Rattle.std.specs.Io.KnownBytes.{Consumes, IsAtEnd, Appends}
use Rattle.asm_aggregate.specs.Standard.{standard_part}
use Rattle.asm_update.specs.declared.aggregator.Aggregator.{Ghosts}
use Rattle.asm_audit.specs.declared.error.AuditError.{AuditError}
use Rattle.asm_run.specs.Protocol.{Segment}
use Rattle.asm_run.specs.Reader.{texts_of, HasReadParts, IsWithinParts, IsRefusedName, IsRefusedText}
use Rattle.asm_run.specs.declared.error.ReadError.{ReadError}
use Rattle.asm_run.specs.declared.error.ReadError.TheVariants as read_error
use Rattle.asm_run.specs.declared.reader.RunReader.{RunReader}
use Rattle.asm_run.specs.declared.trail.Place.TheVariants.{Between}
use Rattle.asm_driver.specs.Audit.{is_failed_read}
use Rattle.asm_driver.specs.Folder.{Files, IsSizeOf, IsTextOf, IsBeginningOf, IsReportedTo, refusal_of_read}
use Rattle.asm_driver.specs.Folder.{IsNumberIn, next_number, IsBadFile}
use Rattle.asm_driver.specs.Ports.{Known, AppendsSome}
use Rattle.asm_driver.specs.Watch.{IsReportOf}
use Rattle.asm_driver.specs.declared.program.refusal.Refusal.{Refusal}
use Rattle.asm_driver.specs.declared.program.refusal.Refusal.TheVariants as refusal
use Rattle.asm_driver.specs.declared.program.watching.Stop.{Stop}
use Rattle.asm_driver.specs.declared.program.watching.Stop.TheVariants.{Refused, Unwritten}

-- ---- the reader

-- these segments were read, and this text is due for them
pub record IsBetween {A : Type 0} {g : Ghosts A} (r : RunReader A g) (every : ℕ) (read : List Segment)
    (reported : List ℕ) : Type 0 where
  pub has : HasReadParts standard_part r.trail r.judge.auditor.auditor.progress r.judge.auditor.line.items r.judge.fault
      [] read
  pub watched : IsReportOf every (texts_of read) reported

-- these segments were read, and these bytes of the next one, whose file has this name and holds this, if that is known;
-- and this text is due for them
pub record IsInside {A : Type 0} {g : Ghosts A} (r : RunReader A g) (every : ℕ) (file : Known) (read : List Segment)
    (title text reported : List ℕ) : Type 0 where
  pub has : IsWithinParts standard_part r.trail r.judge.auditor.auditor.progress r.judge.auditor.line.items
      r.judge.fault [] read title text
  pub size : IsSizeOf file r.trail.segment.length
  pub watched : IsReportedTo every (texts_of read ++ text) reported r.judge.fault

-- ---- what is read

-- what the next bytes of a text make of the reader, with what went out meanwhile
abbrev pub IsTaken : {A : Type 0} {g : Ghosts A} → ℕ → RunReader A g → RunReader A g → List ℕ → List ℕ → Type 0
IsTaken every old new bytes more = (file : Known) (read : List Segment) (title text before : List ℕ) →
    IsInside old every file read title text before → IsInside new every file read title (text ++ bytes) (before ++ more)

-- what a line, or a part of one, makes of the reader and of the text that is due
abbrev pub IsTakenOn : {A : Type 0} {g : Ghosts A} → ℕ → RunReader A g → RunReader A g → List ℕ → List ℕ → List ℕ → Type 0
IsTakenOn every old new bytes a b = (file : Known) (read : List Segment) (title text before : List ℕ) →
    IsInside old every file read title text (before ++ a) → IsInside new every file read title (text ++ bytes) (before ++ b)

-- the text that is due for these bytes
abbrev pub IsTakenTo : {A : Type 0} {g : Ghosts A} → ℕ → RunReader A g → List ℕ → List ℕ → Type 0
IsTakenTo every old bytes more = (file : Known) (read : List Segment) (title text before : List ℕ) →
    IsInside old every file read title text before →
    (f : Option AuditError) × IsReportedTo every (texts_of read ++ (text ++ bytes)) (before ++ more) f

-- the bytes were taken; or memory was refused, before anything went out; or the output failed
abbrev pub IsChunkTaken : {A : Type 0} {g : Ghosts A} → ℕ → RunReader A g → RunReader A g → List ℕ → Known → Known →
    Result (Unit {0}) Stop → Type 0
IsChunkTaken every old new bytes held holds (Ok u) =
    (more : List ℕ) × Appends held holds more × IsTaken every old new bytes more
IsChunkTaken every old new bytes held holds (Err (Refused r)) = (r ≡ refusal.Memory) × Appends held holds []
IsChunkTaken every old new bytes held holds (Err Unwritten) =
    (more : List ℕ) × AppendsSome held holds more × IsTakenTo every old bytes more

-- all bytes of the open file were taken; or a part of them, before a read failed, memory was refused or the output failed
abbrev pub IsFileTaken : {A : Type 0} {g : Ghosts A} → ℕ → RunReader A g → RunReader A g → Known → Known → Bool → Known →
    Known → Result (Unit {0}) Stop → Type 0
IsFileTaken every old new had left failed held holds (Ok u) =
    (bytes more : List ℕ) × Consumes had left bytes × IsAtEnd left × Appends held holds more
    × IsTaken every old new bytes more × (failed ≡ false)
IsFileTaken every old new had left failed held holds (Err (Refused r)) =
    (bytes more : List ℕ) × IsBeginningOf had bytes × Appends held holds more × IsTakenTo every old bytes more
    × ((r ≡ refusal.Memory) ⊎ (r ≡ refusal.InputFault)) × (failed ≡ is_failed_read (Err r))
IsFileTaken every old new had left failed held holds (Err Unwritten) =
    (bytes more : List ℕ) × IsBeginningOf had bytes × AppendsSome held holds more × IsTakenTo every old bytes more
    × (failed ≡ false)

-- the segment of this name was begun, whose file has this size; or it is refused
abbrev pub IsBegun : {A : Type 0} {g : Ghosts A} → RunReader A g → RunReader A g → List ℕ → ℕ → Result (Unit {0}) Refusal →
    Type 0
IsBegun old new title size (Ok u) = (every : ℕ) (file : Known) (read : List Segment) (before : List ℕ) →
    IsSizeOf file size → IsBetween old every read before → IsInside new every file read title [] before
IsBegun old new title size (Err r) = (found : ℕ) × (e : ReadError) × IsRefusedName old.trail title size e
    × (old.trail.place ≡ Between → e ≢ read_error.Busy)
    × IsNumberIn title found e × (r ≡ refusal_of_read old.trail.since.segments (next_number old.trail) found e)

-- the segment of this name was ended; or it is refused
abbrev pub IsEnded : {A : Type 0} {g : Ghosts A} → RunReader A g → RunReader A g → List ℕ → Result (Unit {0}) Refusal → Type 0
IsEnded old new title (Ok u) = (every : ℕ) (file : Known) (read : List Segment) (text before : List ℕ) →
    IsInside old every file read title text before → IsBetween new every (read ++ (title, text) ∷ []) before
IsEnded old new title (Err r) = (e : ReadError)
    × (r ≡ refusal_of_read old.trail.since.segments old.trail.end.segments old.trail.end.segments e)
    × ((every : ℕ) (file : Known) (read : List Segment) (text before : List ℕ) →
    IsInside old every file read title text before → IsRefusedText standard_part old.trail read text e)

-- the file of this name was read as the next segment; or it is refused, or the output failed
abbrev pub IsSegmentTaken : {A : Type 0} {g : Ghosts A} → ℕ → Files → List ℕ → RunReader A g → RunReader A g → Bool →
    Known → Known → Result (Unit {0}) Stop → Type 0
IsSegmentTaken every files title old new failed held holds (Ok u) =
    (text more : List ℕ) × IsTextOf (files title) text × Appends held holds more × (failed ≡ false)
    × ((read : List Segment) (before : List ℕ) → IsBetween old every read before →
    IsBetween new every (read ++ (title, text) ∷ []) (before ++ more))
IsSegmentTaken every files title old new failed held holds (Err (Refused r)) =
    (text more : List ℕ) × IsBeginningOf (files title) text × Appends held holds more
    × (failed ≡ is_failed_read (Err r)) × ((read : List Segment) (before : List ℕ) → IsBetween old every read before →
    ((f : Option AuditError) × IsReportedTo every (texts_of read ++ text) (before ++ more) f)
    × IsBadFile files read title text r)
IsSegmentTaken every files title old new failed held holds (Err Unwritten) =
    (text more : List ℕ) × IsBeginningOf (files title) text × AppendsSome held holds more × (failed ≡ false)
    × ((read : List Segment) (before : List ℕ) → IsBetween old every read before →
    (f : Option AuditError) × IsReportedTo every (texts_of read ++ text) (before ++ more) f)
