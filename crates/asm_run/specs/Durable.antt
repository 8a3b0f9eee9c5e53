-- Whatever fails, nothing that was reported as saved is lost, but what was dropped by order.
use Rattle.std.specs.Prelude.{◌≡◌, ◌≢◌, ◌⊎◌, ◌≤◌, ◌+◌, ℕ, List, [], ◌∷◌, ◌++◌, length, Some, None}
use Rattle.asm_run.specs.declared.stage.Stage.TheVariants.{Ended}
use Rattle.asm_run.specs.Disk.{Disk, unflushed, IsAfterPowerFailure, bytes_at}
use Rattle.asm_run.specs.Name.{number_in}
use Rattle.asm_run.specs.Protocol.{Segment, Saves, Drops, World, Event, Orders, Does, Ends, Power_fails}
use Rattle.asm_run.specs.Protocol.{Begins, Opens}
use Rattle.asm_run.specs.Protocol.{new_name, present_after, world_after, Holds, IsAllowed, AreAllowed}

-- an empty folder that no process has
abbrev pub empty_world : World
empty_world = record {
  disk = record { files = λ _. unflushed []; count = 0; names = λ _. None; former = [] };
  stage = Ended;
  order = Saves ([], []);
  dropped = [];
  present = [];
}

-- the segments that were reported as saved, or found, by all processes after these events
abbrev pub reported_segments : List Event → List Segment
reported_segments events = (world_after events empty_world).dropped ++ (world_after events empty_world).present

-- whether the event is an order to drop a segment
abbrev pub drop_count_of : Event → ℕ
drop_count_of (Orders (Drops s)) = 1
drop_count_of e = 0

-- how many orders to drop a segment were given
abbrev pub drop_count : List Event → ℕ
drop_count [] = 0
drop_count (e ∷ events) = drop_count_of e + drop_count events

-- a process that ends, or a power failure, may leave this folder
abbrev pub CrashMayLeave : (List Segment → Type 0) → World → Disk → Type 0
CrashMayLeave legal w d = IsAllowed legal w (Ends d) ⊎ IsAllowed legal w (Power_fails d)

-- the folder has the last segments of a legal run, and no others; the run begins with all that were reported; at most so
-- many of its first segments are missing, and never all
pub record Survives (legal : List Segment → Type 0) (reported : List Segment) (most : ℕ) (d : Disk) : Type 0 where
  pub dropped : List Segment
  pub present : List Segment
  pub rest : List Segment
  pub holds : Holds d present
  pub is_legal : legal (dropped ++ present)
  pub begins : reported ++ rest ≡ dropped ++ present
  pub few : length dropped ≤ most
  pub some : reported ≢ [] → present ≢ []

-- whatever happens after these events: if a process ends or the power fails, what was reported survives
abbrev pub IsSafe : (List Segment → Type 0) → List Event → Type 0
IsSafe legal events =
    (more : List Event) (d : Disk) → AreAllowed legal more (world_after events empty_world) →
    CrashMayLeave legal (world_after more (world_after events empty_world)) d →
    Survives legal (reported_segments events) (drop_count (events ++ more)) d

-- these are the segments that are present, or those that the last order leaves of them
abbrev pub IsFound : World → List Segment → Type 0
IsFound w segments = (segments ≡ w.present) ⊎ (segments ≡ present_after w.order w.present)

-- a segment is saved by seven events
abbrev pub saving : Segment → List Event
saving s = Orders (Saves s) ∷ Does ∷ Does ∷ Does ∷ Does ∷ Does ∷ Does ∷ []

-- the first one, in an empty folder
abbrev pub saving_first : Segment → List Event
saving_first s = Begins ∷ Opens 0 [] ∷ saving s

-- a first segment can be saved
abbrev pub SavesOne : Type 0
SavesOne =
    (s : Segment) → number_in s.0 ≡ Some 0 →
    AreAllowed (λ _. Unit {0}) (saving_first s) empty_world ×
    ((world_after (saving_first s) empty_world).present ≡ s ∷ [])

-- the older of two segments is saved, the other one is, and the older one is dropped
abbrev pub dropping : Segment → Segment → List Event
dropping s t = saving_first s ++ (saving t ++ (Orders (Drops s) ∷ Does ∷ Does ∷ []))

-- the older of two segments can be dropped
abbrev pub DropsOne : Type 0
DropsOne =
    (s t : Segment) → number_in s.0 ≡ Some 0 → number_in t.0 ≡ Some 1 →
    AreAllowed (λ _. Unit {0}) (dropping s t) empty_world ×
    ((world_after (dropping s t) empty_world).dropped ≡ s ∷ [])
    × ((world_after (dropping s t) empty_world).present ≡ t ∷ [])

-- the folder before it is flushed
abbrev pub renamed_world : Segment → World
renamed_world s = world_after (Begins ∷ Opens 0 [] ∷ Orders
    (Saves s) ∷ Does ∷ Does ∷ Does ∷ Does ∷ Does ∷ []) empty_world

-- a power failure may then take the segment's name away
abbrev pub MayLoseName : Type 0
MayLoseName =
    (s : Segment) → (d : Disk) × IsAfterPowerFailure (renamed_world s).disk d × ((n : List ℕ) → d.names n ≡ None)

-- the folder before the file is flushed
abbrev pub written_world : Segment → World
written_world s = world_after (Begins ∷ Opens 0 [] ∷ Orders (Saves s) ∷ Does ∷ Does ∷ Does ∷ []) empty_world

-- a power failure may then leave any bytes in it
abbrev pub MayTear : Type 0
MayTear =
    (s : Segment) (bytes : List ℕ) → (d : Disk) × IsAfterPowerFailure (written_world s).disk d
    × (bytes_at d (d.names new_name) ≡ Some bytes)
