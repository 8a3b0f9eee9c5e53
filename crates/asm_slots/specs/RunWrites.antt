-- What is saved in the folder of a run.
use Rattle.std.specs.Prelude.{◌≡◌, ◌≢◌, ◌⊎◌, ◌<◌, ◌+◌, ℕ, ℤ, pos, List, [], ◌∷◌, ◌++◌, take, Option, None, Some, Result, Ok, Err}
use Rattle.std.specs.Prelude.{IfErr, IsErrOf, MatchResult, OnOk, OnErr, ◌↔◌}
use Rattle.asm_update.specs.Fire.{Part}
use Rattle.asm_run.specs.Chain.{start_end}
use Rattle.asm_run.specs.Disk.{Disk}
use Rattle.asm_run.specs.Durable.{empty_world, reported_segments, IsFound, IsSafe}
use Rattle.asm_run.specs.Name.{number_in}
use Rattle.asm_run.specs.Protocol.{Segment as Saved, Event, Orders, Does, Ends, Begins, Opens}
use Rattle.asm_run.specs.Protocol.{Saves, Drops}
use Rattle.asm_run.specs.Protocol.{world_after, IsAtWork, IsAllowed, AreAllowed}
use Rattle.asm_run.specs.Reader.{WasRead}
use Rattle.asm_run.specs.Run.{Continues, IsRun, IsExtentOf}
use Rattle.asm_run.specs.Writer.{IsAfter, IsHanded, IsSaved, IsUnhanded}
use Rattle.asm_run.specs.declared.error.WriteError.{WriteError}
use Rattle.asm_run.specs.declared.error.WriteError.TheVariants as write_error
use Rattle.asm_run.specs.declared.stage.Request.{Request}
use Rattle.asm_run.specs.declared.stage.Request.TheVariants as request
use Rattle.asm_run.specs.declared.stage.Stage.TheVariants.{Ended, Opening, Resting}
use Rattle.asm_run.specs.declared.trail.Place.TheVariants.{Between}
use Rattle.asm_run.specs.declared.writer.Extent.{Extent}
use Rattle.asm_run.specs.declared.writer.RunWriter.{RunWriter}
use Rattle.asm_slots.specs.RunReads.{Refuses}
use Rattle.asm_slots.specs.Runs.{HoldsRun}
use Rattle.asm_slots.specs.RunView.{RunView, HasReadSo, HasSameReader}
use Rattle.asm_slots.specs.Standard.{part}
use Rattle.asm_slots.specs.WrittenText.{HasNoText, HasText}
use Rattle.asm_slots.specs.declared.codes.Code.{Code}
use Rattle.asm_slots.specs.declared.codes.Code.TheVariants as code
use Rattle.asm_slots.specs.declared.content.Content.{Content}
use Rattle.asm_slots.specs.declared.run.RunNumbers.{RunNumbers}

-- the code of a writer's error
abbrev pub code_of_write : WriteError → Code
code_of_write write_error.Memory = code.Memory
code_of_write write_error.Busy = code.Order
code_of_write write_error.Segments = code.LongRun
code_of_write write_error.Moves = code.LongRun
code_of_write write_error.Opening = code.Opening

-- the number of a request in C
abbrev pub number_of_request : Option Request → ℤ
number_of_request None = pos 0
number_of_request (Some request.Remove) = pos 1
number_of_request (Some request.Create) = pos 2
number_of_request (Some request.Write) = pos 3
number_of_request (Some request.Flush) = pos 4
number_of_request (Some request.Rename) = pos 5
number_of_request (Some request.FlushFolder) = pos 6
number_of_request (Some request.RemoveOldest) = pos 7

-- a run whose folder this process has locked: nothing was read, and the folder is to be flushed
pub record HasBegun (new : RunView) : Type 0 where
  pub read : HasReadSo new [] []
  pub stage : new.writer.stage ≡ Opening
  pub first : new.writer.saved.first ≡ 0
  pub end : new.writer.saved.end ≡ start_end
  pub after : (p : Part) (events : List Event) → AreAllowed (IsRun p) events empty_world →
      (world_after events empty_world).stage ≡ Ended → IsAfter p new.writer (events ++ Begins ∷ [])

-- why no run begins in the slot
abbrev pub IsNotBegun : Option Content → Code → Type 0
IsNotBegun old code.Taken = old ≢ None
IsNotBegun old code.Memory = old ≡ None
IsNotBegun old _ = ⊥

-- a run begins in the empty slot, or none does, and the slot is unchanged
abbrev pub BeginsRun : Option Content → Option Content → Result (Unit {0}) Code → Type 0
BeginsRun old new r =
    MatchResult r (λ done. (old ≡ None) × HoldsRun new HasBegun) (λ c. (new ≡ old) × IsNotBegun old c)

-- what a call answers, by the writer's answer
abbrev pub ReportsWrite : Result (Unit {0}) WriteError → Result (Unit {0}) Code → Type 0
ReportsWrite (Ok u) r = r ≡ Ok tt
ReportsWrite (Err e) r = r ≡ Err (code_of_write e)

-- the writer goes on after what was read, where no text is open
pub record GoesOn (r : Result (Unit {0}) Code) (old new : RunView) : Type 0 where
  pub between : old.trail.place ≡ Between
  pub found : Extent
  pub answer : Result (Unit {0}) WriteError
  pub reports : ReportsWrite answer r
  pub reader : HasSameReader old new
  pub extent : (skipped segments : List Saved) → WasRead part old.trail skipped segments →
      IsExtentOf (skipped ++ segments) found
  pub ok : OnOk answer ((p : Part) (events : List Event) (segments : List Saved) →
      IsAfter p old.writer events → IsAllowed (IsRun p) (world_after events empty_world) (Opens found.first segments) →
      IsExtentOf segments found → IsAfter p new.writer (events ++ Opens found.first segments ∷ []))
  pub value : OnOk answer (new.writer ≡ record old.writer { stage = Resting; saved = found })
  pub is_found : (p : Part) (events : List Event) (segments : List Saved) →
      IsAfter p old.writer events → IsAllowed (IsRun p) (world_after events empty_world) (Opens found.first segments) →
      IsFound (world_after events empty_world) segments
  pub legal : (p : Part) (events : List Event) (segments : List Saved) →
      IsAfter p old.writer events → IsAllowed (IsRun p) (world_after events empty_world) (Opens found.first segments) →
      IsRun p (take found.first (reported_segments events) ++ segments)
  pub busy : IsErrOf answer write_error.Busy ↔ (old.writer.stage ≢ Opening)
  pub error : IfErr answer (λ e. e ≡ write_error.Busy)
  pub unchanged : OnErr answer (new ≡ old)

-- it does, or a text wasn't read to its end or was refused
abbrev pub GoesOnOrNot : Result (Unit {0}) Code → RunView → RunView → Type 0
GoesOnOrNot r old new = GoesOn r old new ⊎ (Refuses code.Order r old new × (old.trail.place ≢ Between))

-- the writer begins to save a text of so many moves and events under this name
pub record HandsOver (moves events : ℕ) (text name : List ℕ) (old new : RunWriter) : Type 0 where
  pub ok : (p : Part) (history : List Event) → IsAfter p old history →
      Continues p (reported_segments history) moves events text →
      IsAfter p new (history ++ Orders (Saves (name, text)) ∷ [])
  pub handed : IsHanded old moves events text name new

-- why it doesn't
abbrev pub IsNotHanded : ℕ → ℕ → RunWriter → Code → Type 0
IsNotHanded moves events old c = (e : WriteError) × (c ≡ code_of_write e) × IsUnhanded old moves events e

-- the name is written; or nothing changes, as it is too long for the buffer, or for another reason
pub record Hands (moves events : ℕ) (text out after : List ℕ) (written : ℕ) (r : Result (Unit {0}) Code) (old new : RunView) :
    Type 0 where
  pub reader : HasSameReader old new
  pub answers : MatchResult r
      (λ done. HasText (λ name. HandsOver moves events text name old.writer new.writer) out after written)
      (HasNoText (λ name. (w : RunWriter) × HandsOver moves events text name old.writer w)
      (IsNotHanded moves events old.writer) out after written)
  pub busy : old.writer.stage ≢ Resting → r ≡ Err code.Order
  pub unchanged : OnErr r (new ≡ old)

-- the writer begins to drop the oldest segment, which has this number
pub record DropsOldest (number : ℕ) (old new : RunView) : Type 0 where
  pub reader : HasSameReader old new
  pub after : (p : Part) (events : List Event) → IsAfter p old.writer events →
      (s : Saved) × (number_in s.0 ≡ Some number) × IsAfter p new.writer (events ++ Orders (Drops s) ∷ [])
  pub is_first : number ≡ old.writer.saved.first

-- why it doesn't: it doesn't rest, or has fewer than two segments
abbrev pub IsNotDropped : RunWriter → Result (Unit {0}) Code → Type 0
IsNotDropped w r =
    ((r ≡ Err code.Order) × (w.stage ≢ Resting))
    ⊎ ((r ≡ Err code.OneSegment) × (w.stage ≡ Resting) × (w.saved.end.segments < w.saved.first + 2))

-- it does, or doesn't
abbrev pub DropsOrNot : ℕ → Result (Unit {0}) Code → RunView → RunView → Type 0
DropsOrNot number r old new =
    ((r ≡ Ok tt) × DropsOldest number old new) ⊎ ((new ≡ old) × (number ≡ 0) × IsNotDropped old.writer r)

-- what was asked for is done
pub record NotesDone (old new : RunView) : Type 0 where
  pub reader : HasSameReader old new
  pub done : (p : Part) (events : List Event) → IsAfter p old.writer events → IsAtWork old.writer.stage →
      IsAfter p new.writer (events ++ Does ∷ [])
  pub idle : (IsAtWork old.writer.stage → ⊥) → new ≡ old

-- it failed: nothing more is written
pub record NotesFailure (old new : RunView) : Type 0 where
  pub reader : HasSameReader old new
  pub fails : (p : Part) (events : List Event) (d : Disk) → IsAfter p old.writer events →
      IsAllowed (IsRun p) (world_after events empty_world) (Ends d) → IsAfter p new.writer (events ++ Ends d ∷ [])
  pub value : new.writer ≡ record old.writer { stage = Ended }

-- all numbers are 0
abbrev pub no_run_numbers : RunNumbers
no_run_numbers = record { first = 0; segments = 0; moves = 0 }

-- the extent with these numbers and this digest
abbrev pub extent_of : RunNumbers → List ℕ → Extent
extent_of n digest = record { first = n.first; end = record { segments = n.segments; moves = n.moves; digest = digest } }

-- this is saved, and whatever happens then, it survives
pub record HasSaved (n : RunNumbers) (x : RunView) (digest : List ℕ) : Type 0 where
  pub value : x.writer.saved ≡ extent_of n digest
  pub saved : (p : Part) (events : List Event) → IsAfter p x.writer events →
      IsSaved p x.writer.stage (world_after events empty_world) (extent_of n digest)
  pub safe : (p : Part) (events : List Event) → IsAfter p x.writer events → IsSafe (IsRun p) events
