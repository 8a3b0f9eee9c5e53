-- The segments of a run of which a window is traced, line by line.
use Rattle.std.specs.Prelude.{◌≡◌, ◌≢◌, ◌<◌, ◌≤◌, ◌+◌, ◌⊎◌, ℕ, zero, suc, Bool, false, List, [], ◌∷◌, ◌++◌, length, Result, Ok, Err}
use Rattle.std.specs.Io.KnownBytes.{Consumes, IsAtEnd}
use Rattle.asm_aggregate.specs.Standard.{standard_part}
use Rattle.asm_update.specs.State.{State}
use Rattle.asm_state.specs.FollowsFrom.{FollowsFrom}
use Rattle.asm_storage.specs.History.{fired_moves}
use Rattle.asm_storage.specs.declared.history.Event.{Event}
use Rattle.asm_journal.specs.Fault.{BreaksHeader}
use Rattle.asm_journal.specs.Reading.{HasNoLineFeed, EndsLine, HasLine, IsHeader}
use Rattle.asm_journal.specs.declared.error.JournalError.TheVariants as journal_error
use Rattle.asm_journal.specs.declared.parsing.Header.{Header}
use Rattle.serde_json.specs.Data.{Data}
use Rattle.asm_audit.specs.Chain.{IsGoing}
use Rattle.asm_audit.specs.Fault.{HasLong, IsBehind}
use Rattle.asm_audit.specs.PartAuditor.{history_of}
use Rattle.asm_audit.specs.Text.{BeginsWithLong}
use Rattle.asm_audit.specs.declared.part_auditor.PartAuditor.{PartAuditor}
use Rattle.asm_driver.specs.Audit.{IsBadRun, is_failed_read}
use Rattle.asm_driver.specs.Ports.{Known}
use Rattle.asm_driver.specs.declared.program.refusal.Refusal.{Refusal}
use Rattle.asm_driver.specs.declared.program.refusal.Refusal.TheVariants as refusal

-- ---- segments that are passed

-- the text is this many lines, whatever they are, and the rest
abbrev pub HasLines : ℕ → List ℕ → List ℕ → Type 0
HasLines zero text rest = text ≡ rest
HasLines (suc n) text rest = (body after : List ℕ) × EndsLine text body after × HasLines n after rest

-- the text is the line of this header, and the rest
abbrev pub HasHeaderLine : Header → List ℕ → List ℕ → Type 0
HasHeaderLine h text rest =
    (d : Data) × HasLine text d rest × IsHeader h.limits.version h.limits.agents h.limits.capacity h.limits.events h.init d

-- the text is a header and as many lines as that counts events, whatever these are, and the rest
abbrev pub HasSegment : List ℕ → List ℕ → Type 0
HasSegment text rest =
    (h : Header) × (behind : List ℕ) × HasHeaderLine h text behind × HasLines h.limits.events behind rest

-- the text is this many such segments, and the rest
abbrev pub HasSegments : ℕ → List ℕ → List ℕ → Type 0
HasSegments zero text rest = text ≡ rest
HasSegments (suc n) text rest = (after : List ℕ) × HasSegment text after × HasSegments n after rest

-- the text is a header and fewer lines than that counts events, and the rest
abbrev pub HasSomeLines : List ℕ → List ℕ → Type 0
HasSomeLines text rest = (h : Header) × (behind : List ℕ) × (n : ℕ) × HasHeaderLine h text behind × HasLines n behind rest
    × (n < h.limits.events)

-- ---- the text up to there

-- the text is this many segments, and of the next one this header and so many lines
abbrev pub IsSkipping : ℕ → Header → ℕ → List ℕ → Type 0
IsSkipping number h n text = (rest behind : List ℕ) × HasSegments number text rest × HasHeaderLine h rest behind × HasLines n behind []

-- the text is this many segments, and of the next one, which opens with this state, the header and these events,
-- which are legal
pub record IsPartRead (number : ℕ) (text : List ℕ) (o : PartAuditor) (A : State) (es : List Event) : Type 0 where
  pub rest : List ℕ
  pub has : HasSegments number text rest
  pub going : IsGoing standard_part A o.limits.version o.limits.events (history_of o.limits A es) rest []
  pub known : o.number ≡ number
  pub taken : o.taken ≡ length es
  pub within : o.taken ≤ o.limits.events
  pub stands : FollowsFrom standard_part A o.state (fired_moves es)

-- these bytes of the input were consumed, and those behind them are pending
abbrev pub IsAt : Known → Known → List ℕ → List ℕ → Type 0
IsAt had left text behind = Consumes had left (text ++ behind)

-- the bytes are one line, or a part of one
abbrev pub IsOneLine : List ℕ → Type 0
IsOneLine line = HasNoLineFeed line ⊎ ((body : List ℕ) × EndsLine line body [])

-- ---- why there is no window

-- the segment with this number, with which the text begins, has this fault, as an audit of a run finds it that begins
-- with the segment
abbrev pub IsBadAlone : ℕ → List ℕ → Refusal → Type 0
IsBadAlone number text (refusal.BadPart part fault) = (part ≡ number) × IsBadRun text (refusal.BadPart 0 fault)
IsBadAlone number text (refusal.Illegal part call) = (part ≡ number) × IsBadRun text (refusal.Illegal 0 call)
IsBadAlone number text refusal.TooLarge = IsBehind standard_part text 0 (HasLong standard_part)
IsBadAlone number text r = ⊥

-- the segment with this number, with which the text begins, can't be passed: its header is at fault, or a line behind
-- it is missing or too long
abbrev pub IsNotPassed : ℕ → List ℕ → Refusal → Type 0
IsNotPassed number text (refusal.BadPart part fault) = (part ≡ number)
    × (((fault ≢ journal_error.Memory) × BreaksHeader text fault)
    ⊎ ((fault ≡ journal_error.Cut) × ((left : List ℕ) × HasSomeLines text left × HasNoLineFeed left)))
IsNotPassed number text refusal.TooLarge = BeginsWithLong text ⊎ ((left : List ℕ) × HasSomeLines text left × BeginsWithLong left)
IsNotPassed number text r = ⊥

-- the text is this many segments, and something of the next one, as the first may be missing alone, of which this
-- holds; nothing is claimed of a failed read and an allocation failure
abbrev pub IsBadBehind : (ℕ → List ℕ → Refusal → Type 0) → ℕ → List ℕ → Refusal → Type 0
IsBadBehind Bad number text refusal.InputFault = Unit {0}
IsBadBehind Bad number text refusal.Memory = Unit {0}
IsBadBehind Bad number text r =
    (rest : List ℕ) × HasSegments number text rest × (rest ≡ [] → number ≡ 0) × Bad number rest r

-- behind the bytes that were consumed, this is reported at one line: at the end of the input, or whatever follows the
-- line
pub record IsReportedAfter (had left : Known) (failed : Bool) (taken : List ℕ) (Report : List ℕ → Refusal → Type 0)
    (r : Refusal) : Type 0 where
  pub line : List ℕ
  pub behind : List ℕ
  pub consumed : Consumes had left (taken ++ (line ++ behind))
  pub one : IsOneLine line
  pub reported : (IsAtEnd left × (behind ≡ []) × Report (taken ++ line) r)
      ⊎ ((more : List ℕ) → Report (taken ++ (line ++ more)) r)
  pub noted : failed ≡ is_failed_read (Err r)

-- one more event of the same segment was taken in
abbrev pub IsNext : PartAuditor → PartAuditor → Type 0
IsNext old new = (new.number ≡ old.number) × (new.limits ≡ old.limits) × (new.taken ≡ old.taken + 1)

-- behind these bytes and events, one more event was read; or none, as the segment is refused
abbrev pub IsEventRead : Known → Known → Bool → ℕ → List ℕ → List ℕ → PartAuditor → State → List Event →
    Result Event Refusal → Type 0
IsEventRead had left failed number text behind new A es (Ok e) =
    (failed ≡ false) × ((more : List ℕ) × IsAt had left more behind × IsPartRead number more new A (es ++ e ∷ []))
IsEventRead had left failed number text behind new A es (Err r) =
    IsReportedAfter had left failed text (IsBadBehind IsBadAlone number) r
