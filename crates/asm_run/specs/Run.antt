-- Legal runs, in segments with their names.
use Rattle.std.specs.Prelude.{◌≡◌, ℕ, List, [], ◌∷◌, ◌++◌, length}
use Rattle.asm_update.specs.Fire.{Part}
use Rattle.asm_update.specs.State.{State}
use Rattle.asm_storage.specs.History.{fired_moves}
use Rattle.asm_storage.specs.declared.history.History.{History}
use Rattle.asm_audit.specs.Text.{HasJournal}
use Rattle.asm_audit.specs.Chain.{AreLegalFrom}
use Rattle.asm_run.specs.declared.end.RunEnd.{RunEnd}
use Rattle.asm_run.specs.declared.name.SegmentName.{SegmentName}
use Rattle.asm_run.specs.declared.writer.Extent.{Extent}
use Rattle.asm_run.specs.Chain.{start_end, AreChained, AreNext}
use Rattle.asm_run.specs.Name.{IsName}
use Rattle.asm_run.specs.Protocol.{Segment}

-- what the names of the segments say, and their texts
abbrev pub AreNamed : List Segment → List (SegmentName × List ℕ) → Type 0
AreNamed [] [] = Unit {0}
AreNamed (s ∷ segments) (p ∷ pairs) = IsName s.0 p.0 × (s.1 ≡ p.1) × AreNamed segments pairs
AreNamed _ _ = ⊥

-- the text is the journal of the history, which has this many moves and events
pub record IsJournalOf (h : History) (moves events : ℕ) (text : List ℕ) : Type 0 where
  pub journal : HasJournal h text []
  pub fired : moves ≡ length (fired_moves h.events)
  pub answered : events ≡ length h.events

-- the texts are the journals of the histories, with the moves and events that their names say
abbrev pub AreJournals : List (SegmentName × List ℕ) → List History → Type 0
AreJournals [] [] = Unit {0}
AreJournals (p ∷ pairs) (h ∷ hs) = IsJournalOf h p.0.moves p.0.events p.1 × AreJournals pairs hs
AreJournals _ _ = ⊥

-- the segments are a legal run between these two ends: their names and digests are right, and the texts are legal
-- journals, each of which opens with what the one before it leaves
pub record IsRunFrom (part : Part) (e : RunEnd) (segments : List Segment) (end : RunEnd) : Type 0 where
  pub pairs : List (SegmentName × List ℕ)
  pub first : State
  pub histories : List History
  pub named : AreNamed segments pairs
  pub chained : AreChained e pairs end
  pub journals : AreJournals pairs histories
  pub legal : AreLegalFrom part first histories

-- the same from segment 0 on
abbrev pub EndsAt : Part → List Segment → RunEnd → Type 0
EndsAt part segments e = IsRunFrom part start_end segments e

-- a legal run
abbrev pub IsRun : Part → List Segment → Type 0
IsRun part segments = (e : RunEnd) × EndsAt part segments e

-- the text is the journal of a history that continues the run, with this many moves and events
pub record Continues (part : Part) (segments : List Segment) (moves events : ℕ) (text : List ℕ) : Type 0 where
  pub history : History
  pub journal : IsJournalOf history moves events text
  pub legal : (e : RunEnd) (r : IsRunFrom part start_end segments e) →
      (first : State) × AreLegalFrom part first (r.histories ++ history ∷ [])

-- what the names of the segments say
abbrev pub AreTitles : List Segment → List SegmentName → Type 0
AreTitles [] [] = Unit {0}
AreTitles (s ∷ segments) (n ∷ names) = IsName s.0 n × AreTitles segments names
AreTitles _ _ = ⊥

-- the segments come between these two ends, as their names say; nothing is said of their texts
pub record AreBetween (e : RunEnd) (segments : List Segment) (end : RunEnd) : Type 0 where
  pub names : List SegmentName
  pub titles : AreTitles segments names
  pub next : AreNext e names end

-- the number of the first of these segments, and the end after them, as their names say
abbrev pub IsExtentOf : List Segment → Extent → Type 0
IsExtentOf [] x = (x.first ≡ 0) × (x.end ≡ start_end)
IsExtentOf (s ∷ segments) x = (e : RunEnd) × (x.first ≡ e.segments) × AreBetween e (s ∷ segments) x.end

-- the names of segments after any end say how a run ends
abbrev pub EndsOnce : Type 0
EndsOnce = (d e : RunEnd) (s : Segment) (segments : List Segment) (x y : RunEnd) → AreBetween d (s ∷ segments) x →
    AreBetween e (s ∷ segments) y → x ≡ y
