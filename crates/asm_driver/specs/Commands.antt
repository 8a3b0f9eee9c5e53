-- What the program does with the bytes of its input, and why it doesn't.
use Rattle.std.specs.Prelude.{◌≡◌, ◌≢◌, ◌≤◌, ℕ, Bool, true, false, List, ◌++◌, codes, length}
use Rattle.std.specs.Fmt.{decimal}
use Rattle.asm_storage.specs.History.{Fits}
use Rattle.asm_storage.specs.declared.history.History.{History}
use Rattle.asm_journal.specs.Check.{machine_of, IsLegality}
use Rattle.asm_journal.specs.Fault as fault
use Rattle.asm_journal.specs.Reading as journal
use Rattle.asm_journal.specs.Text.{text_of}
use Rattle.asm_journal.specs.declared.checking.Legality.{Legality}
use Rattle.asm_journal.specs.declared.checking.Legality.TheVariants.{Legal, Illegal}
use Rattle.asm_journal.specs.declared.error.JournalError.TheVariants as journal_error
use Rattle.asm_script.specs.Plan.{Plan}
use Rattle.asm_row.specs.Limits.{IsNoCapacity}
use Rattle.asm_play.specs.Play.{IsPlayOf, IsPlayWithTerms}
use Rattle.asm_driver.specs.Explained.{IsExplained}
use Rattle.asm_driver.specs.Report.{AreAgentsTermLines, line, report_of}
use Rattle.asm_script.specs.Script.{IsScriptOf, IsRefusedScript}
use Rattle.asm_aggregate.specs.Standard.{standard_part}
use Rattle.asm_play.specs.declared.outcome.Played.{Played}
use Rattle.asm_play.specs.declared.outcome.PlayedWithTerms.{PlayedWithTerms}
use Rattle.asm_trace.specs.Text.{IsTrace}
use Rattle.asm_driver.specs.declared.program.refusal.Refusal.{Refusal}
use Rattle.asm_driver.specs.declared.program.refusal.Refusal.TheVariants as refusal
use Rattle.asm_script.specs.declared.script.ScriptError.TheVariants.{BadScript}
use Rattle.asm_driver.specs.declared.program.words.Request.{Request}
use Rattle.asm_driver.specs.declared.program.words.Request.TheVariants.{Run, Terms, Check, Rewrite, Trace, Show, Audit, Explain}

-- ---- run

-- the bytes are a script
abbrev pub IsScript : List ℕ → Type 0
IsScript bytes = (plan : Plan) × IsScriptOf bytes plan

-- the bytes are a script of two agents or more, so that threads are started
abbrev pub IsOfSeveral : List ℕ → Type 0
IsOfSeveral bytes = (plan : Plan) × IsScriptOf bytes plan × (2 ≤ length plan.agents)

-- this is a play of the script of these bytes, with this capacity
abbrev pub IsPlayed : List ℕ → ℕ → Played → Type 0
IsPlayed bytes capacity p = (plan : Plan) × IsScriptOf bytes plan × IsPlayOf plan capacity p

-- the text of a played script: its journal if that is asked for, else its report
abbrev pub text_of_played : Bool → Played → List ℕ
text_of_played true p = text_of p.history
text_of_played false p = report_of standard_part p

-- the text of the script of these bytes, played with this capacity
abbrev pub IsRunText : List ℕ → ℕ → Bool → List ℕ → Type 0
IsRunText bytes capacity asked text =
    (p : Played) × IsPlayed bytes capacity p × (text ≡ text_of_played asked p)

-- this is a play of the script of these bytes, with this capacity, and the terms without a value that ended its steps
abbrev pub IsPlayedWithTerms : List ℕ → ℕ → PlayedWithTerms → Type 0
IsPlayedWithTerms bytes capacity p = (plan : Plan) × IsScriptOf bytes plan × IsPlayWithTerms plan capacity p

-- the report of the script of these bytes, played with this capacity, and behind it a line for each step that a term
-- without a value ended
abbrev pub IsTermsText : List ℕ → ℕ → List ℕ → Type 0
IsTermsText bytes capacity text =
    (p : PlayedWithTerms) × (lines : List ℕ) × IsPlayedWithTerms bytes capacity p × AreAgentsTermLines 0 p.terms lines
    × (text ≡ report_of standard_part p.played ++ lines)

-- why nothing is written of a played script: the journal is asked for, and the history is beyond a journal's limits;
-- nothing is claimed of an allocation failure
abbrev pub IsNoText : Bool → Played → Refusal → Type 0
IsNoText asked p refusal.Unfit = (asked ≡ true) × ¬ Fits p.history
IsNoText asked p refusal.Memory = Unit {0}
IsNoText asked p r = ⊥

-- why these bytes aren't played: they are no script; the capacity is out of range; a thread couldn't be started for a
-- script of several agents; a move has no receipt; what was played has no text; nothing is claimed of an allocation
-- failure
abbrev pub IsNoRun : List ℕ → ℕ → Bool → Refusal → Type 0
IsNoRun bytes capacity asked (refusal.BadScript cause) = IsRefusedScript bytes (BadScript cause)
IsNoRun bytes capacity asked refusal.Words = IsScript bytes × IsNoCapacity capacity
IsNoRun bytes capacity asked refusal.NoThread = IsOfSeveral bytes
IsNoRun bytes capacity asked (refusal.Missing k) = IsScript bytes
IsNoRun bytes capacity asked refusal.Unfit = (p : Played) × IsPlayed bytes capacity p × IsNoText asked p refusal.Unfit
IsNoRun bytes capacity asked refusal.Memory = Unit {0}
IsNoRun bytes capacity asked r = ⊥

-- ---- check

-- legal CALLS MOVES, or illegal CALL
abbrev pub legality_line : Legality → List ℕ
legality_line (Legal calls moves) = line (codes "legal " ++ decimal calls ++ codes " " ++ decimal moves)
legality_line (Illegal call) = line (codes "illegal " ++ decimal call)

-- the status of a check
abbrev pub legality_status : Legality → ℕ
legality_status (Legal calls moves) = 0
legality_status (Illegal call) = 1

-- the line and the status of the check of the history that these bytes read as
abbrev pub IsCheck : List ℕ → ℕ → List ℕ → Type 0
IsCheck bytes status text =
    (h : History) × (l : Legality) × journal.ReadsAs bytes h × IsLegality (machine_of standard_part h) h.events l
    × (status ≡ legality_status l) × (text ≡ legality_line l)

-- ---- rewrite

-- the text of the history that these bytes read as, whether it is legal or not
abbrev pub IsRewrite : List ℕ → List ℕ → Type 0
IsRewrite bytes text = (h : History) × journal.ReadsAs bytes h × (text ≡ text_of h)

-- ---- trace

-- the trace of the history that these bytes read as, whether it is legal or not
abbrev pub IsTraceOf : List ℕ → List ℕ → Type 0
IsTraceOf bytes text = (h : History) × journal.ReadsAs bytes h × IsTrace standard_part h text

-- ---- check, rewrite and trace

-- why these bytes aren't checked, rewritten or traced: they are no journal; nothing is claimed of an allocation
-- failure
abbrev pub IsNoJournal : List ℕ → Refusal → Type 0
IsNoJournal bytes (refusal.BadJournal e) = (e ≢ journal_error.Memory) × fault.IsRefused bytes e
IsNoJournal bytes refusal.Memory = Unit {0}
IsNoJournal bytes r = ⊥

-- ---- each command

-- the status and the text of a request that is carried out on these bytes, which are the complete input; an audit and
-- a window don't ask for a complete input
abbrev pub IsDone : List ℕ → Request → ℕ → List ℕ → Type 0
IsDone bytes (Run capacity asked) status text = (status ≡ 0) × IsRunText bytes capacity asked text
IsDone bytes (Terms capacity) status text = (status ≡ 0) × IsTermsText bytes capacity text
IsDone bytes Check status text = IsCheck bytes status text
IsDone bytes Rewrite status text = (status ≡ 0) × IsRewrite bytes text
IsDone bytes Trace status text = (status ≡ 0) × IsTraceOf bytes text
IsDone bytes (Show w) status text = ⊥
IsDone bytes (Audit every) status text = ⊥
IsDone bytes (Explain t) status text = IsExplained bytes t status text

-- why a request isn't carried out on these bytes
abbrev pub IsNotDone : List ℕ → Request → Refusal → Type 0
IsNotDone bytes (Run capacity asked) r = IsNoRun bytes capacity asked r
IsNotDone bytes (Terms capacity) r = IsNoRun bytes capacity false r
IsNotDone bytes Check r = IsNoJournal bytes r
IsNotDone bytes Rewrite r = IsNoJournal bytes r
IsNotDone bytes Trace r = IsNoJournal bytes r
IsNotDone bytes (Show w) r = ⊥
IsNotDone bytes (Audit every) r = ⊥
IsNotDone bytes (Explain t) r = r ≡ refusal.Memory
