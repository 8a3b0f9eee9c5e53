-- The writer of a run after a history of its folder.
use Rattle.std.specs.Prelude.{◌≡◌, ◌≢◌, ◌⊎◌, ◌≤◌, ◌+◌, ◌^◌, ℕ, List, ◌++◌, length}
use Rattle.asm_update.specs.Fire.{Part}
use Rattle.asm_run.specs.declared.end.RunEnd.{RunEnd}
use Rattle.asm_run.specs.declared.error.WriteError.{WriteError}
use Rattle.asm_run.specs.declared.error.WriteError.TheVariants as write_error
use Rattle.asm_run.specs.declared.name.SegmentName.{SegmentName}
use Rattle.asm_run.specs.declared.stage.Stage.{Stage}
use Rattle.asm_run.specs.declared.stage.Stage.TheVariants.{Ended, Opening, Resting, Removing, FlushingFolder}
use Rattle.asm_run.specs.declared.writer.Extent.{Extent}
use Rattle.asm_run.specs.declared.writer.RunWriter.{RunWriter}
use Rattle.asm_run.specs.Chain.{start_end, Follows}
use Rattle.asm_run.specs.Name.{name_text}
use Rattle.asm_run.specs.Run.{EndsAt, IsRun}
use Rattle.asm_run.specs.Protocol.{Segment, World, Event, world_after, present_after, dropped_after, AreAllowed}
use Rattle.asm_run.specs.Durable.{empty_world}

-- the extent of a run of which the first segments are dropped and the others present
abbrev pub IsExtent : Part → List Segment → List Segment → Extent → Type 0
IsExtent part dropped present x = (x.first ≡ length dropped) × EndsAt part (dropped ++ present) x.end

-- what the writer knows at this stage: what is saved, and what will be once the order is done
abbrev pub Knows : Part → Stage → RunWriter → World → Type 0
Knows part Ended x w = Unit {0}
Knows part Opening x w = Unit {0}
Knows part Resting x w = IsExtent part w.dropped w.present x.saved
Knows part _ x w =
    IsExtent part w.dropped w.present x.saved
    × IsExtent part (dropped_after w.order w.dropped) (present_after w.order w.present) x.next

-- what is saved once a request is done
abbrev pub saved_at : Stage → RunWriter → Extent
saved_at FlushingFolder x = x.next
saved_at _ x = x.saved

-- these events are allowed from the empty folder on, and this is the writer of the process that has the folder then.
-- `open` makes it so, and each call keeps it
pub record IsAfter (part : Part) (x : RunWriter) (events : List Event) : Type 0 where
  pub may : AreAllowed (IsRun part) events empty_world
  pub stage : x.stage ≡ (world_after events empty_world).stage
  pub knows : Knows part (world_after events empty_world).stage x (world_after events empty_world)

-- the extent is that of the folder; nothing is known before it is read, and after the process has ended
abbrev pub IsSaved : Part → Stage → World → Extent → Type 0
IsSaved part Ended w x = Unit {0}
IsSaved part Opening w x = Unit {0}
IsSaved part _ w x = IsExtent part w.dropped w.present x

-- the writer begins to save this text under this name, that of the next segment with these moves and events
pub record IsHanded (old : RunWriter) (moves events : ℕ) (text title : List ℕ) (new : RunWriter) : Type 0 where
  pub name : SegmentName
  pub end : RunEnd
  pub follows : Follows old.saved.end name text end
  pub fired : name.moves ≡ moves
  pub answered : name.events ≡ events
  pub title_is : title ≡ name_text name
  pub begun : new ≡ record old { stage = Removing; next = record { first = old.saved.first; end = end } }

-- why a segment with these moves and events can't come next
abbrev pub IsUnsaved : RunEnd → ℕ → ℕ → WriteError → Type 0
IsUnsaved e moves events write_error.Memory = Unit {0}
IsUnsaved e moves events write_error.Segments = 100000000 ≤ e.segments
IsUnsaved e moves events write_error.Opening = (e.segments ≡ 0) × ((e ≢ start_end) ⊎ (moves + events ≢ 0))
IsUnsaved e moves events write_error.Moves = 2 ^ 64 ≤ e.moves + moves
IsUnsaved e moves events write_error.Busy = ⊥

-- why the writer doesn't begin to save it
abbrev pub IsUnhanded : RunWriter → ℕ → ℕ → WriteError → Type 0
IsUnhanded w moves events write_error.Busy = w.stage ≢ Resting
IsUnhanded w moves events e = (w.stage ≡ Resting) × IsUnsaved w.saved.end moves events e
