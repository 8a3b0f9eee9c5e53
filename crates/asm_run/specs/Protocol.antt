-- The writer's requests, and histories of processes on one folder.
use Rattle.std.specs.Prelude.{◌≡◌, ◌+◌, ℕ, List, [], ◌∷◌, ◌++◌, length, take, drop, Option, Some, None, cond}
use Rattle.std.specs.Prelude.{bytes_eq}
use Rattle.asm_run.specs.declared.stage.Request.{Request}
use Rattle.asm_run.specs.declared.stage.Request.TheVariants as request
use Rattle.asm_run.specs.declared.stage.Stage.{Stage}
use Rattle.asm_run.specs.declared.stage.Stage.TheVariants.{Ended, Opening, Resting, Removing, Creating, Writing}
use Rattle.asm_run.specs.declared.stage.Stage.TheVariants.{Flushing}
use Rattle.asm_run.specs.declared.stage.Stage.TheVariants.{Renaming, Dropping, FlushingFolder}
use Rattle.asm_run.specs.Disk.{Disk, SystemCall, Remove, Create, Write, Flush, Rename, FlushFolder}
use Rattle.asm_run.specs.Disk.{disk_after, CallMayLeave, IsAfterPowerFailure, bytes_at}
use Rattle.asm_run.specs.Name.{number_in}

-- the call for which the writer asks at this stage
abbrev pub request_at : Stage → Option Request
request_at Ended = None
request_at Opening = Some request.FlushFolder
request_at Resting = None
request_at Removing = Some request.Remove
request_at Creating = Some request.Create
request_at Writing = Some request.Write
request_at Flushing = Some request.Flush
request_at Renaming = Some request.Rename
request_at Dropping = Some request.RemoveOldest
request_at FlushingFolder = Some request.FlushFolder

-- the stage once that is done
abbrev pub next_stage : Stage → Stage
next_stage Ended = Ended
next_stage Opening = Opening
next_stage Resting = Resting
next_stage Removing = Creating
next_stage Creating = Writing
next_stage Writing = Flushing
next_stage Flushing = Renaming
next_stage Renaming = FlushingFolder
next_stage Dropping = FlushingFolder
next_stage FlushingFolder = Resting

-- a segment: its name and its text
abbrev pub Segment : Type 0
Segment = List ℕ × List ℕ

-- an order to a writer
pub data Order : Type 0 where
  Saves : (s : Segment) → Order
  Drops : (s : Segment) → Order  -- the oldest segment

-- the segment that is saved or dropped
abbrev pub segment_of : Order → Segment
segment_of (Saves s) = s
segment_of (Drops s) = s

-- the segments that are present once it is done
abbrev pub present_after : Order → List Segment → List Segment
present_after (Saves s) present = present ++ s ∷ []
present_after (Drops s) present = drop 1 present

-- those that are dropped then
abbrev pub dropped_after : Order → List Segment → List Segment
dropped_after (Saves s) dropped = dropped
dropped_after (Drops s) dropped = dropped ++ s ∷ []

-- the name of the file that is written: new
abbrev pub new_name : List ℕ
new_name = 110 ∷ 101 ∷ 119 ∷ []

-- the call of the system for a request
abbrev pub call_of : Segment → Request → SystemCall
call_of s request.Remove = Remove new_name
call_of s request.Create = Create new_name
call_of s request.Write = Write new_name s.1
call_of s request.Flush = Flush new_name
call_of s request.Rename = Rename new_name s.0
call_of s request.RemoveOldest = Remove s.0
call_of s request.FlushFolder = FlushFolder

-- a folder; the writer of the process that has locked it, with its last order; the segments that were dropped, and
-- those that were reported as saved or found, and weren't dropped
pub record World : Type 0 where
  pub disk : Disk
  pub stage : Stage
  pub order : Order
  pub dropped : List Segment
  pub present : List Segment

-- the folder once the request is done
abbrev pub disk_after_request : Segment → Option Request → Disk → Disk
disk_after_request s None d = d
disk_after_request s (Some r) d = disk_after (call_of s r) d

-- the folder if it failed or wasn't done
abbrev pub RequestMayLeave : Segment → Option Request → Disk → Disk → Type 0
RequestMayLeave s None d e = e ≡ d
RequestMayLeave s (Some r) d e = CallMayLeave (call_of s r) d e

-- the segments that are present once this stage is done: the order is done once the folder is flushed
abbrev pub present_at : Stage → Order → List Segment → List Segment
present_at FlushingFolder o present = present_after o present
present_at _ o present = present

-- those that are dropped then
abbrev pub dropped_at : Stage → Order → List Segment → List Segment
dropped_at FlushingFolder o dropped = dropped_after o dropped
dropped_at _ o dropped = dropped

-- the text at a name, if it is one of theirs
abbrev pub text_of : List Segment → List ℕ → Option (List ℕ)
text_of [] n = None
text_of (s ∷ segments) n = cond (bytes_eq n s.0) (Some s.1) (text_of segments n)

-- A process gives its writer an order; it does what the writer asks for; that fails, or the process ends, at any moment;
-- the power fails at any moment; a process removes `new` after its writer has ended, or before it begins; a process locks
-- the folder; it has flushed the folder, and reads these segments, the first of which has this number.
pub data Event : Type 0 where
  Orders : (o : Order) → Event
  Does : Event
  Ends : (d : Disk) → Event
  Power_fails : (d : Disk) → Event
  Cleans : Event
  Begins : Event
  Opens : (from : ℕ) (segments : List Segment) → Event

-- what an event makes of a folder
abbrev pub next_world : World → Event → World
next_world w (Orders (Saves s)) = record w { stage = Removing; order = Saves s }
next_world w (Orders (Drops s)) = record w { stage = Dropping; order = Drops s }
next_world w Does = record {
  disk = disk_after_request (segment_of w.order) (request_at w.stage) w.disk;
  stage = next_stage w.stage;
  order = w.order;
  dropped = dropped_at w.stage w.order w.dropped;
  present = present_at w.stage w.order w.present;
}
next_world w (Ends d) = record w { disk = d; stage = Ended }
next_world w (Power_fails d) = record w { disk = d; stage = Ended }
next_world w Cleans = record w { disk = disk_after (Remove new_name) w.disk }
next_world w Begins = record w { stage = Opening }
next_world w (Opens from segments) = record {
  disk = disk_after FlushFolder w.disk;
  stage = Resting;
  order = w.order;
  dropped = take from (w.dropped ++ w.present);
  present = segments;
}

-- what events make of it, one after the other
abbrev pub world_after : List Event → World → World
world_after [] w = w
world_after (e ∷ events) w = world_after events (next_world w e)

-- the writer is at work
abbrev pub IsAtWork : Stage → Type 0
IsAtWork Ended = ⊥
IsAtWork Opening = ⊥
IsAtWork Resting = ⊥
IsAtWork _ = Unit {0}

-- the segments have these numbers, in order
abbrev pub AreNumbered : ℕ → List Segment → Type 0
AreNumbered k [] = Unit {0}
AreNumbered k (s ∷ segments) = (number_in s.0 ≡ Some k) × AreNumbered (k + 1) segments

-- the folder has these segments and no others: each name that ends in .journal leads to the text of one, or nowhere
abbrev pub Holds : Disk → List Segment → Type 0
Holds d segments = (n : List ℕ) (k : ℕ) → number_in n ≡ Some k → bytes_at d (d.names n) ≡ text_of segments n

-- the order may be given: to save a segment that continues the legal run, or to drop the oldest of at least two
abbrev pub MayOrder : (List Segment → Type 0) → List Segment → List Segment → Order → Type 0
MayOrder legal dropped present (Saves s) =
    (number_in s.0 ≡ Some (length dropped + length present)) × legal ((dropped ++ present) ++ s ∷ [])
MayOrder legal dropped present (Drops s) = (next : Segment) × (rest : List Segment) × (present ≡ s ∷ next ∷ rest)

-- the event is allowed
abbrev pub IsAllowed : (List Segment → Type 0) → World → Event → Type 0
IsAllowed legal w (Orders o) = (w.stage ≡ Resting) × MayOrder legal w.dropped w.present o
IsAllowed legal w Does = IsAtWork w.stage
IsAllowed legal w (Ends d) = RequestMayLeave (segment_of w.order) (request_at w.stage) w.disk d
IsAllowed legal w (Power_fails d) =
    (e : Disk) × RequestMayLeave (segment_of w.order) (request_at w.stage) w.disk e × IsAfterPowerFailure e d
IsAllowed legal w Cleans = w.stage ≡ Ended
IsAllowed legal w Begins = w.stage ≡ Ended
IsAllowed legal w (Opens from segments) =
    (w.stage ≡ Opening) × AreNumbered from segments × Holds (disk_after FlushFolder w.disk) segments

-- the events are, one after the other
abbrev pub AreAllowed : (List Segment → Type 0) → List Event → World → Type 0
AreAllowed legal [] w = Unit {0}
AreAllowed legal (e ∷ events) w = IsAllowed legal w e × AreAllowed legal events (next_world w e)
