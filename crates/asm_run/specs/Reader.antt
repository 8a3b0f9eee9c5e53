-- What was read of a run.
use Rattle.std.specs.Prelude.{◌≡◌, ◌≢◌, ◌⊎◌, ◌<◌, ◌≤◌, ◌+◌, ◌^◌, ℕ, List, [], ◌∷◌, ◌++◌, length, Option, Some, None}
use Rattle.std.specs.Prelude.{Ok, cond, nat_eq}
use Rattle.asm_update.specs.declared.aggregator.Aggregator.{Ghosts}
use Rattle.asm_update.specs.Fire.{Part}
use Rattle.asm_update.specs.State.{State}
use Rattle.asm_audit.specs.declared.error.AuditError.{AuditError}
use Rattle.asm_audit.specs.declared.progress.Counts.{Counts}
use Rattle.asm_audit.specs.declared.progress.Progress.{Progress}
use Rattle.asm_audit.specs.Audited.{calls_of, moves_of, IsVerdict}
use Rattle.asm_storage.specs.declared.history.History.{History}
use Rattle.asm_journal.specs.Reading.{ReadsAs}
use Rattle.asm_audit.specs.Chain.{last_left, state_left}
use Rattle.asm_audit.specs.Fault.{IsFaulty}
use Rattle.asm_audit.specs.Fed.{IsFed}
use Rattle.asm_run.specs.declared.end.RunEnd.{RunEnd}
use Rattle.asm_run.specs.declared.error.ReadError.{ReadError}
use Rattle.asm_run.specs.declared.error.ReadError.TheVariants as read_error
use Rattle.asm_run.specs.declared.name.SegmentName.{SegmentName}
use Rattle.asm_run.specs.declared.reader.RunReader.{RunReader}
use Rattle.asm_run.specs.declared.trail.Place.TheVariants.{Between, Within}
use Rattle.asm_run.specs.declared.trail.Trail.{Trail}
use Rattle.asm_run.specs.Chain.{start_of, Follows}
use Rattle.asm_run.specs.Judge.{Judges}
use Rattle.asm_run.specs.Name.{IsName}
use Rattle.asm_run.specs.Protocol.{Segment}
use Rattle.asm_run.specs.Run.{AreBetween, IsJournalOf, IsRunFrom}
use Rattle.asm_run.specs.Segment.{IsTaken, IsDamaged, IsMisplaced}

-- the texts one after the other
abbrev pub texts_of : List Segment → List ℕ
texts_of [] = []
texts_of (s ∷ segments) = s.1 ++ texts_of segments

-- the names of the skipped segments and of the others follow one another; the others are a legal run, with these counts
pub record WasRead (part : Part) (t : Trail) (skipped segments : List Segment) : Type 0 where
  pub between : AreBetween t.from (skipped ++ segments) t.end
  pub run : IsRunFrom part t.since segments t.end
  pub calls : t.counts.calls ≡ calls_of run.histories
  pub moves : t.counts.moves ≡ moves_of run.histories
  pub parts : t.counts.parts ≡ length run.histories

-- they were read, and the next name may come
pub record HasReadParts (part : Part) (t : Trail) (p : Progress) (line : List ℕ) (fault : Option AuditError)
    (skipped segments : List Segment) : Type 0 where
  pub before : WasRead part t skipped segments
  pub place : t.place ≡ Between
  pub open_yet : fault ≡ None
  pub fed : IsFed part (texts_of segments) p line

-- they were read, and these bytes of the next one, which has this title
pub record IsWithinParts (part : Part) (t : Trail) (p : Progress) (line : List ℕ) (fault : Option AuditError)
    (skipped segments : List Segment) (title text : List ℕ) : Type 0 where
  pub before : WasRead part t skipped segments
  pub place : t.place ≡ Within
  pub named : IsName title t.segment.name
  pub taken : IsTaken t.end t.segment text
  pub judged : Judges part (texts_of segments ++ text) p line fault

-- what the aggregator of the reader means
abbrev pub part_of : {A : Type 0} {g : Ghosts A} → RunReader A g → Part
part_of {A} {g} r = (g.meaning r.judge.auditor.auditor.aggregator).part

-- the reader has read these segments, of which the first were skipped: their texts are unknown
abbrev pub HasRead : {A : Type 0} {g : Ghosts A} → RunReader A g → List Segment → List Segment → Type 0
HasRead r skipped segments = HasReadParts (part_of r) r.trail r.judge.auditor.auditor.progress
    r.judge.auditor.line.items r.judge.fault skipped segments

-- it has, and these bytes of the next one, which has this title
abbrev pub IsWithin : {A : Type 0} {g : Ghosts A} → RunReader A g → List Segment → List Segment → List ℕ → List ℕ →
    Type 0
IsWithin r skipped segments title text = IsWithinParts
    (part_of r) r.trail r.judge.auditor.auditor.progress r.judge.auditor.line.items r.judge.fault skipped segments
    title text

-- the counts with those of one more segment
pub record IsExactly (old : Counts) (moves events : ℕ) (new : Counts) : Type 0 where
  pub calls : new.calls ≡ old.calls + events
  pub fired : new.moves ≡ old.moves + moves
  pub parts : new.parts ≡ old.parts + 1
  pub few_calls : new.calls < 18446744073709551615
  pub few_moves : new.moves < 18446744073709551615
  pub few_parts : new.parts < 18446744073709551615

-- with one more segment a count is beyond the counters
abbrev pub AreTooMany : Counts → ℕ → ℕ → Type 0
AreTooMany old moves events =
    (18446744073709551615 ≤ old.calls + events) ⊎ ((18446744073709551615 ≤ old.moves + moves) ⊎
    (18446744073709551615 ≤ old.parts + 1))

-- the end after which a segment of this name comes: its own start, if it is the first one that is read
abbrev pub end_before : Trail → SegmentName → RunEnd
end_before t n = cond (nat_eq t.from.segments t.end.segments) (start_of n) t.end

-- why a text of this title and size isn't begun
abbrev pub IsRefusedName : Trail → List ℕ → ℕ → ReadError → Type 0
IsRefusedName t title size read_error.Busy = t.place ≢ Between
IsRefusedName t title size read_error.Name = (n : SegmentName) → n.first < 2 ^ 64 → n.moves < 2 ^ 64 →
    n.events < 2 ^ 64 → IsName title n → ⊥
IsRefusedName t title size e = (n : SegmentName) × IsName title n × IsMisplaced (end_before t n) n size e

-- the text is the one that was saved
abbrev pub IsSavedText : Trail → List ℕ → Type 0
IsSavedText t text = Follows t.end t.segment.name text t.segment.next

-- why the text isn't that of the next segment: the first of these
abbrev pub IsRefusedText : Part → Trail → List Segment → List ℕ → ReadError → Type 0
IsRefusedText part t segments text read_error.Damaged = IsDamaged t.end t.segment text
IsRefusedText part t segments text (read_error.Audit e) =
    IsSavedText t text × IsFaulty part (texts_of segments ++ text) e
IsRefusedText part t segments text read_error.Many = IsSavedText t text × AreTooMany t.counts t.segment.name.moves
    t.segment.name.events
IsRefusedText part t segments text read_error.Counts =
    IsSavedText t text × ((h : History) → IsJournalOf h t.segment.name.moves t.segment.name.events text → ⊥)
IsRefusedText part t segments text error = ⊥

-- the text is that of the next segment, and these are the counts with it
abbrev pub IsCounted : Part → Trail → Option AuditError → List Segment → List ℕ → Counts → Type 0
IsCounted part t fault segments text counts =
    (fault ≡ None) × IsSavedText t text × IsExactly t.counts t.segment.name.moves t.segment.name.events counts ×
    IsVerdict part (texts_of segments ++ text) (Ok counts)

-- a text was fed, in part or complete
abbrev pub HasFed : Trail → Option AuditError → Type 0
HasFed t fault = (t.counts.parts ≢ 0) ⊎ ((t.segment.taken ≢ 0) ⊎ (fault ≢ None))

-- it is what the segments leave, as of their histories; there is none without a segment
abbrev pub IsStateAfter : Part → List Segment → Option State → Type 0
IsStateAfter part segments None = segments ≡ []
IsStateAfter part segments (Some s) = (e end : RunEnd) (r : IsRunFrom part e segments end) →
    s ≡ last_left part r.first r.histories

-- the state is what the segments leave; if there is none, any one
abbrev pub OpensNext : Part → List Segment → State → Type 0
OpensNext part segments A = (segments ≡ []) ⊎ IsStateAfter part segments (Some A)

-- the state that the last segments of a run leave is the one that all leave
abbrev pub KeepsState : Type 0
KeepsState = (part : Part) (before segments : List Segment) (s : State) → IsStateAfter part segments (Some s) →
    IsStateAfter part (before ++ segments) (Some s)

-- what the journal that was saved last leaves is what the segments leave
abbrev pub NextOpens : Type 0
NextOpens = (part : Part) (segments : List Segment) (s : Segment) (h : History) → ReadsAs s.1 h →
    OpensNext part (segments ++ s ∷ []) (state_left part h)
