-- What the program writes while it audits a run.
use Rattle.std.specs.Prelude.{◌≡◌, ◌<◌, ◌%◌, ◌⊎◌, ℕ, Bool, true, false, List, [], ◌∷◌, ◌++◌, All, codes, Result, Ok, Err}
use Rattle.std.specs.Fmt.{decimal}
use Rattle.std.specs.Io.KnownBytes.{Consumes, IsAtEnd, Appends}
use Rattle.asm_aggregate.specs.Standard.{standard_part}
use Rattle.asm_audit.specs.Fed.{IsFed}
use Rattle.asm_audit.specs.SoFar.{HasCounts}
use Rattle.asm_audit.specs.Text.{ended_lines}
use Rattle.asm_journal.specs.Reading.{HasNoLineFeed}
use Rattle.asm_audit.specs.declared.error.AuditError.{AuditError}
use Rattle.asm_audit.specs.declared.progress.Counts.{Counts}
use Rattle.asm_audit.specs.declared.progress.Progress.{Progress}
use Rattle.asm_driver.specs.Audit.{IsAuditOf, IsBadRun, is_failed_read, refusal_of_audit}
use Rattle.asm_driver.specs.Ports.{Known}
use Rattle.asm_driver.specs.Ports.{AppendsSome}
use Rattle.asm_driver.specs.Report.{line as with_feed}
use Rattle.asm_driver.specs.declared.program.refusal.Refusal.{Refusal}
use Rattle.asm_driver.specs.declared.program.refusal.Refusal.TheVariants as refusal
use Rattle.asm_driver.specs.declared.program.watching.Stop.{Stop}
use Rattle.asm_driver.specs.declared.program.watching.Stop.TheVariants.{Refused, Unwritten}

-- so far CALLS MOVES PARTS
abbrev pub so_far_line : Counts → List ℕ
so_far_line w =
    with_feed (codes "so far " ++ decimal w.calls ++ codes " " ++ decimal w.moves ++ codes " " ++ decimal w.parts)

-- a line is due: there is a call more than before, and the number isn't 0 and divides the number of calls
abbrev pub IsDue : ℕ → ℕ → ℕ → Type 0
IsDue every before calls = (0 < every) × (before < calls) × (calls % every ≡ 0)

-- the text that is due behind a line of the run, which led from the first counts to the second: the line of the
-- latter, if it is due
abbrev pub IsDueText : ℕ → Counts → Counts → List ℕ → Type 0
IsDueText every w x text =
    (IsDue every w.calls x.calls × (text ≡ so_far_line x)) ⊎ (¬ IsDue every w.calls x.calls × (text ≡ []))

-- the text for this line of the run, behind those that were consumed: what is due by the counts before it and behind
-- it
abbrev pub IsReportOfLine : ℕ → List ℕ → List ℕ → List ℕ → Type 0
IsReportOfLine every taken l text =
    (w x : Counts) × HasCounts standard_part taken w × HasCounts standard_part (taken ++ (l ++ 10 ∷ [])) x
    × IsDueText every w x text

-- the texts for these lines of the run in turn, behind those that were consumed
abbrev pub IsReportOfLines : ℕ → List (List ℕ) → List ℕ → List ℕ → Type 0
IsReportOfLines every [] taken reported = reported ≡ []
IsReportOfLines every (l ∷ ls) taken reported =
    (first rest : List ℕ) × IsReportOfLine every taken l first × (reported ≡ first ++ rest)
    × IsReportOfLines every ls (taken ++ (l ++ 10 ∷ [])) rest

-- the text for these bytes of a run: that for each line that ends in them
pub record IsReportOf (every : ℕ) (taken reported : List ℕ) : Type 0 where
  pub lines : List (List ℕ)
  pub line : List ℕ
  pub all : ended_lines lines ++ line ≡ taken
  pub ended : All HasNoLineFeed lines
  pub open_line : HasNoLineFeed line
  pub of_lines : IsReportOfLines every lines [] reported

-- how the audit ends behind the bytes that were consumed: there is no further one, or a read failed, or the audit
-- reports it at the next one, whatever follows that
abbrev pub IsReportedAfter : Known → List ℕ → List ℕ → Result Counts Refusal → Type 0
IsReportedAfter left taken [] r = (IsAtEnd left × IsAuditOf taken r) ⊎ (r ≡ Err refusal.InputFault)
IsReportedAfter left taken (b ∷ bs) r = (is_failed_read r ≡ false) × ((more : List ℕ) → IsAuditOf (taken ++ b ∷ more) r)

-- an audit of the input, with the text that is written meanwhile: some bytes of it were read, and the first of these
-- were consumed
pub record IsWatchReported (every : ℕ) (had left : Known) (failed : Bool) (r : Result Counts Refusal) (reported : List ℕ) : Type 0
  where
    pub taken : List ℕ
    pub behind : List ℕ
    pub consumed : Consumes had left (taken ++ behind)
    pub watched : IsReportOf every taken reported
    pub ends : IsReportedAfter left taken behind r
    pub noted : failed ≡ is_failed_read r

-- an audit that ends within the input, with the text that was due up to there
pub record IsWatchCut (every : ℕ) (had left : Known) (reported : List ℕ) : Type 0 where
  pub taken : List ℕ
  pub behind : List ℕ
  pub consumed : Consumes had left (taken ++ behind)
  pub watched : IsReportOf every taken reported

-- ---- on the way

-- these bytes were fed, and this text was due meanwhile
pub record IsWatched (every : ℕ) (text : List ℕ) (p : Progress) (line reported : List ℕ) : Type 0 where
  pub fed : IsFed standard_part text p line
  pub watched : IsReportOf every text reported

-- of the bytes behind a text the first were consumed, this text was due, and the audit ends in this way at the next
-- one
pub record IsStopped (every : ℕ) (text bytes reported : List ℕ) (r : Refusal) : Type 0 where
  pub front : List ℕ
  pub next : ℕ
  pub behind : List ℕ
  pub all : front ++ next ∷ behind ≡ bytes
  pub watched : IsReportOf every (text ++ front) reported
  pub noted : is_failed_read (Err r) ≡ false
  pub ends : (more : List ℕ) → IsBadRun ((text ++ front) ++ next ∷ more) r

-- what an audit reports behind further bytes
abbrev pub IsWatchAnswer : ℕ → List ℕ → List ℕ → Progress → List ℕ → List ℕ → Result (Unit {0}) AuditError → Type 0
IsWatchAnswer every text bytes q left reported (Ok u) = IsWatched every (text ++ bytes) q left reported
IsWatchAnswer every text bytes q left reported (Err e) = IsStopped every text bytes reported (refusal_of_audit e)

-- the bytes are the previous ones with the text that is due
abbrev pub AddsDue : ℕ → Counts → Counts → List ℕ → List ℕ → Type 0
AddsDue every w x old new = (text : List ℕ) × IsDueText every w x text × (new ≡ old ++ text)

-- whether a call of the output failed
abbrev pub is_unwritten : {T : Type 0} → Result T Stop → Bool
is_unwritten (Err Unwritten) = true
is_unwritten _ = false

-- the answer to further bytes, with the text that went out behind this one; if the output failed, these are the first
-- bytes of that text, any number of them
abbrev pub IsWrittenAnswer : ℕ → List ℕ → List ℕ → Progress → List ℕ → List ℕ → Known → Known → Result (Unit {0}) Stop → Type 0
IsWrittenAnswer every text bytes q left before held holds (Ok u) =
    (more : List ℕ) × Appends held holds more × IsWatched every (text ++ bytes) q left (before ++ more)
IsWrittenAnswer every text bytes q left before held holds (Err (Refused r)) =
    (more : List ℕ) × Appends held holds more × IsStopped every text bytes (before ++ more) r
IsWrittenAnswer every text bytes q left before held holds (Err Unwritten) =
    (more front behind : List ℕ) × AppendsSome held holds more × (front ++ behind ≡ bytes)
    × IsReportOf every (text ++ front) (before ++ more)

-- how a watched audit of the input ends, with what went out meanwhile
abbrev pub IsWatchEnd : ℕ → Known → Known → Bool → Known → Known → Result Counts Stop → Type 0
IsWatchEnd every had left failed held holds (Ok w) =
    (reported : List ℕ) × Appends held holds reported × IsWatchReported every had left failed (Ok w) reported
IsWatchEnd every had left failed held holds (Err (Refused r)) =
    (reported : List ℕ) × Appends held holds reported × IsWatchReported every had left failed (Err r) reported
IsWatchEnd every had left failed held holds (Err Unwritten) =
    (reported : List ℕ) × AppendsSome held holds reported × IsWatchCut every had left reported × (failed ≡ false)
