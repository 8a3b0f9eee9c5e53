-- The trace of a window of a run.
use Rattle.std.specs.Prelude.{◌≡◌, ◌+◌, ◌<◌, ◌≤◌, ◌⊎◌, ℕ, Bool, false, List, [], ◌++◌, length, codes, unwrap_or}
use Rattle.std.specs.Prelude.{Result, Ok, Err}
use Rattle.std.specs.Io.KnownBytes.{Consumes}
use Rattle.serde_json.specs.Data.{Data, object, member, no_members}
use Rattle.asm_aggregate.specs.Standard.{standard_part}
use Rattle.asm_update.specs.State.{State}
use Rattle.asm_storage.specs.History.{fired_moves, IsLegal}
use Rattle.asm_storage.specs.Machine.{machine_state}
use Rattle.asm_storage.specs.declared.history.Event.{Event}
use Rattle.asm_storage.specs.declared.history.History.{History}
use Rattle.asm_journal.specs.Check.{machine, machine_of}
use Rattle.asm_journal.specs.Shape.{number_json_of}
use Rattle.asm_journal.specs.Text.{line, state_json_of}
use Rattle.asm_journal.specs.declared.parsing.Header.{Header}
use Rattle.asm_audit.specs.Text.{IsBegun}
use Rattle.asm_audit.specs.declared.part_auditor.PartAuditor.{PartAuditor}
use Rattle.asm_trace.specs.Note.{Note, AreNotesOf}
use Rattle.asm_trace.specs.Text.{notes_text}
use Rattle.asm_driver.specs.Ports.{Known}
use Rattle.asm_driver.specs.Parts.{HasHeaderLine, HasSegments, HasSomeLines, IsPartRead, IsAt, IsOneLine, IsBadAlone, IsNotPassed, IsBadBehind, IsReportedAfter}
use Rattle.asm_driver.specs.declared.program.refusal.Refusal.{Refusal}
use Rattle.asm_driver.specs.declared.program.refusal.Refusal.TheVariants as refusal
use Rattle.asm_driver.specs.declared.program.words.Window.{Window}

-- ---- a window

-- the number of the call behind the window's last one, in a segment of this many calls
abbrev pub end_in : Window → ℕ → ℕ
end_in w count = unwrap_or w.to count

-- a segment of this many calls has all calls of the window
abbrev pub LiesIn : Window → ℕ → Type 0
LiesIn w count = (w.from ≤ end_in w count) × (end_in w count ≤ count)

-- ---- its text

-- {"agents":N,"capacity":N,"events":N,"from":N,"init":[PAIR, ..],"moves":N,"part":N,"trace":2}
abbrev pub window_header_with : ℕ → ℕ → ℕ → ℕ → State → ℕ → ℕ → Data
window_header_with agents capacity events from init moves part =
    object (member (codes "agents") (number_json_of agents) (member (codes "capacity") (number_json_of capacity)
    (member (codes "events") (number_json_of events) (member (codes "from") (number_json_of from)
    (member (codes "init") (state_json_of init) (member (codes "moves") (number_json_of moves)
    (member (codes "part") (number_json_of part) (member (codes "trace") (number_json_of 2) no_members))))))))

-- the header of a window of this many events of the segment, which come after these: with the state that the moves of
-- these leave, and how many moves that are
abbrev pub window_header : ℕ → History → List Event → ℕ → Data
window_header part h before count =
    let q = fired_moves before in
    window_header_with h.agents h.capacity count (length before) (machine_state (machine_of standard_part h) q) (length q) part

-- the header of a window of the segment, and a line for each of its events, which come after these
abbrev pub IsWindowText : ℕ → History → List Event → List Event → List ℕ → Type 0
IsWindowText part h before shown text =
    (notes : List Note)
    × AreNotesOf (machine_of standard_part h) (fired_moves before) (length before) shown notes
    × (text ≡ line (window_header part h before (length shown)) ++ notes_text notes)

-- ---- the window of a run

-- the text is as many segments as the window's number, whatever their events are, and one more that is legal up to the
-- window's end, from the state with which its header opens; and this is the window's text
pub record IsShown (w : Window) (text reported : List ℕ) : Type 0 where
  pub rest : List ℕ
  pub has : HasSegments w.part text rest
  pub v : ℕ
  pub count : ℕ
  pub h : History
  pub behind : List ℕ
  pub begun : IsBegun v count h rest behind
  pub legal : IsLegal (machine_of standard_part h) h.events
  pub lies : LiesIn w count
  pub before : List Event
  pub shown : List Event
  pub events : h.events ≡ before ++ shown
  pub from : length before ≡ w.from
  pub end : length h.events ≡ end_in w count
  pub is : IsWindowText w.part h before shown reported

-- the text is as many segments, and the window's one has this many calls, beyond which the window goes
pub record HasFewCalls (w : Window) (text : List ℕ) (count : ℕ) : Type 0 where
  pub rest : List ℕ
  pub has : HasSegments w.part text rest
  pub h : Header
  pub behind : List ℕ
  pub line : HasHeaderLine h rest behind
  pub events : h.limits.events ≡ count
  pub beyond : ¬ LiesIn w count

-- why a run of this text has no such window: the window goes beyond its segment; the text is fewer segments; the
-- window's segment is refused, or one before it can't be passed
abbrev pub IsBadWindow : Window → List ℕ → Refusal → Type 0
IsBadWindow w text (refusal.FewCalls part calls) = (part ≡ w.part) × HasFewCalls w text calls
IsBadWindow w text (refusal.FewParts parts) = (0 < parts) × (parts ≤ w.part) × HasSegments parts text []
IsBadWindow w text r =
    IsBadBehind IsBadAlone w.part text r ⊎ ((number : ℕ) × (number < w.part) × IsBadBehind IsNotPassed number text r)

-- the text is segments, at most as many as the window's number, and perhaps a part of one more: before the window's
-- segment its header and some of its lines; of the window's own the header and fewer events than up to the window's end
abbrev pub IsInside : Window → List ℕ → Type 0
IsInside w text =
    ((number : ℕ) × HasSegments number text [] × (number ≤ w.part))
    ⊎ ((number : ℕ) × (rest : List ℕ) × HasSegments number text rest × HasSomeLines rest [] × (number < w.part))
    ⊎ ((o : PartAuditor) × (A : State) × (es : List Event) × IsPartRead w.part text o A es
    × (length es < end_in w o.limits.events))

-- some bytes of the input were consumed, and this is the window's text, whatever follows them
pub record IsWindow (w : Window) (had left : Known) (failed : Bool) (reported : List ℕ) : Type 0 where
  pub bytes : List ℕ
  pub consumed : Consumes had left bytes
  pub shown : (more : List ℕ) → IsShown w (bytes ++ more) reported
  pub noted : failed ≡ false

-- some bytes of the input were consumed, and there is no such window: this is reported at a line before the window's
-- end
abbrev pub IsNoWindow : Window → Known → Known → Bool → Refusal → Type 0
IsNoWindow w had left failed r =
    (taken : List ℕ) × IsInside w taken × IsReportedAfter had left failed taken (IsBadWindow w) r

-- ---- on the way

-- the header of the next segment was read, behind complete ones
abbrev pub IsHeaderRead : Known → Known → Bool → List ℕ → List ℕ → Header → Type 0
IsHeaderRead had left failed text behind h =
    (failed ≡ false) × ((line : List ℕ) × IsAt had left (text ++ line) behind × IsOneLine line × HasHeaderLine h line [])

-- the lines of the segment with this number were passed; or there is no window
abbrev pub IsSkipped : Window → Known → Known → Bool → ℕ → List ℕ → Result (Unit {0}) Refusal → Type 0
IsSkipped w had left failed number behind (Ok u) =
    (failed ≡ false) × ((text : List ℕ) × IsAt had left text behind × HasSegments (number + 1) text [])
IsSkipped w had left failed number behind (Err r) = IsNoWindow w had left failed r

-- the header of the segment with this number was read, behind complete ones
abbrev pub IsPartOpened : Known → Known → Bool → ℕ → List ℕ → PartAuditor → Type 0
IsPartOpened had left failed number behind o =
    (failed ≡ false) × (o.taken ≡ 0) × ((text line : List ℕ) × (A : State) × IsAt had left (text ++ line) behind
    × HasSegments number text [] × IsOneLine line
    × IsPartRead number (text ++ line) o A [])

-- this many events of the window's segment were read; or it is refused
abbrev pub IsPassed : Window → Known → Known → Bool → ℕ → List ℕ → PartAuditor → State → Result (Unit {0}) Refusal → Type 0
IsPassed w had left failed calls behind o A (Ok u) =
    (failed ≡ false) × ((text : List ℕ) × (es : List Event) × IsAt had left text behind
    × IsPartRead w.part text o A es × (length es ≡ calls))
IsPassed w had left failed calls behind o A (Err r) = IsNoWindow w had left failed r

-- the events up to the window's end were read, and the line of each was appended; or the run is refused
abbrev pub AreNoted : Window → Known → Known → Bool → ℕ → List ℕ → PartAuditor → State → List Event → List ℕ → List ℕ →
    Result (Unit {0}) Refusal → Type 0
AreNoted w had left failed end behind o A es old new (Ok u) =
    (failed ≡ false) × ((text : List ℕ) × (shown : List Event) × (notes : List Note) × IsAt had left text behind
    × IsPartRead w.part text o A (es ++ shown) × (length (es ++ shown) ≡ end)
    × AreNotesOf (machine standard_part A o.limits.capacity) (fired_moves es) (length es) shown notes
    × (new ≡ old ++ notes_text notes))
AreNoted w had left failed end behind o A es old new (Err r) = IsNoWindow w had left failed r
