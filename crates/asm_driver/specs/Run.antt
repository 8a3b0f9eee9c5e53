-- How a run of the program ends: its status, and the text that it writes.
use Rattle.std.specs.Prelude.{◌≡◌, ◌≢◌, ◌⊎◌, ◌++◌, ℕ, Bool, true, false, List, Result, Ok, Err, codes, string_bytes}
use Rattle.std.specs.Io.KnownBytes.{Appends}
use Rattle.std.specs.declared.io.ErrorKind.{ErrorKind}
use Rattle.std.specs.declared.io.ErrorKind.TheVariants.{InvalidData}
use Rattle.asm_driver.specs.Ports.{Known, ReadsAll, TakesTooMany, TakesSome, TakesAny}
use Rattle.asm_driver.specs.Ports.{AppendsSome}
use Rattle.asm_driver.specs.Words.{Words, AsksFor, AsksForHelp, AsksForVersion, HasMistake}
use Rattle.asm_driver.specs.Report.{line}
use Rattle.asm_audit.specs.declared.progress.Counts.{Counts}
use Rattle.asm_driver.specs.Audit.{legal_line}
use Rattle.asm_driver.specs.Watch.{IsWatchReported, IsWatchCut}
use Rattle.asm_driver.specs.Window.{IsWindow, IsNoWindow}
use Rattle.asm_driver.specs.Commands.{IsDone, IsNotDone}
use Rattle.asm_driver.specs.Trace.{IsTraceBegun}
use Rattle.asm_journal.specs.Reading.{ReadsAs}
use Rattle.asm_storage.specs.declared.history.History.{History}
use Rattle.asm_driver.specs.Refusal.{refusal_line, refusal_status, has_number}
use Rattle.asm_driver.specs.declared.program.commands.Ending.{Ending}
use Rattle.asm_driver.specs.declared.program.refusal.Refusal.{Refusal}
use Rattle.asm_driver.specs.declared.program.refusal.Refusal.TheVariants as refusal
use Rattle.asm_driver.specs.declared.program.words.Request.{Request}
use Rattle.asm_driver.specs.declared.program.words.Request.TheVariants.{Audit, Show, Trace}
use Rattle.asm_driver.specs.declared.program.words.Window.{Window}
use Rattle.asm_driver.specs.declared.program.words.WordsError.{WordsError}
use Rattle.asm_driver.specs.declared.program.words.WordsError.TheVariants as words

-- ---- the input of a run

-- the input of a run: what it had and has left, and whether a read of it failed
pub record Input : Type 0 where
  pub had : Known
  pub left : Known
  pub failed : Bool

-- the input with these fields
abbrev pub input_of : Known → Known → Bool → Input
input_of had left failed = record { had = had; left = left; failed = failed }

-- nothing was read
pub record IsUnread (i : Input) : Type 0 where
  pub same : i.left ≡ i.had
  pub whole : i.failed ≡ false

-- these bytes were all of the input
pub record IsWhole (i : Input) (bytes : List ℕ) : Type 0 where
  pub all : ReadsAll i.had i.left bytes
  pub whole : i.failed ≡ false

-- ---- answers

-- the words' request, carried out on all of the input
abbrev pub IsAsked : Words → Input → ℕ → List ℕ → Type 0
IsAsked words i status text =
    (bytes : List ℕ) × (request : Request) × IsWhole i bytes × AsksFor words request × IsDone bytes request status text

-- the trace of the window that the words ask for, from the run on the input
abbrev pub IsShownOf : Words → Input → ℕ → List ℕ → Type 0
IsShownOf words i status text =
    (w : Window) × AsksFor words (Show w) × (status ≡ 0) × IsWindow w i.had i.left i.failed text

-- the line with the version
abbrev pub version_line : List ℕ
version_line = line (codes "asm_driver 0.2.0")

-- the text is the help, if the words ask for that, or the line with the version, if they ask for that
abbrev pub IsReportOf : Words → List ℕ → Type 0
IsReportOf words text = AsksForHelp words ⊎ (AsksForVersion words × (text ≡ version_line))

-- the answer to the words: their request carried out; or help or the version, before anything is read
abbrev pub IsAnswer : Words → Input → ℕ → List ℕ → Type 0
IsAnswer words i status text =
    IsAsked words i status text ⊎ IsShownOf words i status text
    ⊎ ((status ≡ 0) × IsReportOf words text × IsUnread i)

-- why the words are refused
abbrev pub IsWordsRefusal : Words → Refusal → Type 0
IsWordsRefusal words refusal.Words = HasMistake words
IsWordsRefusal words refusal.Memory = Unit {0}
IsWordsRefusal words r = ⊥

-- why there is no input: it is too large, a read failed, or memory was refused
abbrev pub IsNoInput : Input → Refusal → Type 0
IsNoInput i refusal.TooLarge = TakesTooMany i.had i.left × (i.failed ≡ false)
IsNoInput i refusal.InputFault = TakesSome i.had i.left × (i.failed ≡ true)
IsNoInput i refusal.Memory = TakesSome i.had i.left × (i.failed ≡ false)
IsNoInput i r = ⊥

-- the words ask for something that needs the complete input
abbrev pub AsksForWhole : Words → Type 0
AsksForWhole words =
    (request : Request) × AsksFor words request × ((w : Window) → request ≢ Show w)
    × ((every : ℕ) → request ≢ Audit every)

-- why there is no answer: the words, before anything is read; then the input, if all of it is asked for; then its
-- content; or why there is no trace of a window
abbrev pub IsNoAnswer : Words → Input → Refusal → Type 0
IsNoAnswer words i r =
    (IsWordsRefusal words r × IsUnread i)
    ⊎ (AsksForWhole words × IsNoInput i r)
    ⊎ ((bytes : List ℕ) × (request : Request) × IsWhole i bytes × AsksFor words request × IsNotDone bytes request r)
    ⊎ ((w : Window) × AsksFor words (Show w) × IsNoWindow w i.had i.left i.failed r)

-- the words ask for an audit of a run, or for the trace of a window of one
abbrev pub AsksForRun : Words → Type 0
AsksForRun words =
    ((every : ℕ) × AsksFor words (Audit every)) ⊎ ((w : Window) × AsksFor words (Show w))

-- bytes of the input were consumed: as many as an audit or a window needs, else at most one beyond the limit
abbrev pub Takes : Words → Known → Known → Type 0
Takes words had left = TakesSome had left ⊎ (AsksForRun words × TakesAny had left)

-- the answer is the line with the version, or a refusal because there was no memory for it
abbrev pub IsVersion : Result Ending Refusal → Type 0
IsVersion (Ok e) = (e.status ≡ 0) × (string_bytes e.text ≡ version_line)
IsVersion (Err r) = r ≡ refusal.Memory

-- what an error of the words becomes: help and the version, if asked for, are answers
abbrev pub IsAnswerTo : WordsError → Result Ending Refusal → Type 0
IsAnswerTo (words.Help text) r = r ≡ Ok (record { status = 0; text = text })
IsAnswerTo words.Version r = IsVersion r
IsAnswerTo words.Bad r = r ≡ Err refusal.Words
IsAnswerTo words.Memory r = r ≡ Err refusal.Memory

-- the refusal of words that the system couldn't provide: one isn't UTF-8, or memory was refused
abbrev pub IsRefusalOfKind : ErrorKind → Refusal → Type 0
IsRefusalOfKind k refusal.Words = k ≡ InvalidData
IsRefusalOfKind k refusal.Memory = ¬ (k ≡ InvalidData)
IsRefusalOfKind k r = ⊥

-- ---- what is written

-- the output of a run: what it held and holds, whether a call of it failed, and whether all is flushed
pub record Output : Type 0 where
  pub held : Known
  pub holds : Known
  pub failed : Bool
  pub flushed : Bool

-- the output with these fields
abbrev pub output_of : Known → Known → Bool → Bool → Output
output_of held holds failed flushed = record { held = held; holds = holds; failed = failed; flushed = flushed }

-- the complete text went out and is flushed
pub record WentOut (o : Output) (text : List ℕ) : Type 0 where
  pub all : Appends o.held o.holds text
  pub whole : o.failed ≡ false
  pub flushed : o.flushed ≡ true

-- the output failed, and the first bytes of the text went out, any number of them
pub record IsCut (o : Output) (text : List ℕ) : Type 0 where
  pub some : AppendsSome o.held o.holds text
  pub failed : o.failed ≡ true

-- the text went out, or the output failed and the status is 4
abbrev pub Writes : Output → ℕ → List ℕ → ℕ → Type 0
Writes o status text result = ((result ≡ status) × WentOut o text) ⊎ ((result ≡ 4) × IsCut o text)

-- the refusal that is shown: this one, or an allocation failure if the number in its line needs memory
abbrev pub IsShown : Refusal → Refusal → Type 0
IsShown r shown = (shown ≡ r) ⊎ ((shown ≡ refusal.Memory) × (has_number r ≡ true))

-- the line of the refusal that is shown goes out with its status
abbrev pub Refuses : Output → Refusal → ℕ → Type 0
Refuses o r result =
    (shown : Refusal) × IsShown r shown × Writes o (refusal_status shown) (refusal_line shown) result

-- an answer with its status, or a refusal's line with its status
abbrev pub Ends : Words → Input → ℕ → List ℕ → Type 0
Ends words i status text =
    IsAnswer words i status text
    ⊎ ((r : Refusal) × IsNoAnswer words i r × (status ≡ refusal_status r) × (text ≡ refusal_line r))

-- how an audit ends, with its status: the line of a legal run, or a refusal that is shown
abbrev pub EndsAs : Result Counts Refusal → ℕ → List ℕ → Type 0
EndsAs (Ok w) status text = (status ≡ 0) × (text ≡ legal_line w)
EndsAs (Err r) status text =
    (shown : Refusal) × IsShown r shown × (status ≡ refusal_status shown) × (text ≡ refusal_line shown)

-- the line of a legal run goes out with its status, or that of an allocation failure
abbrev pub WritesLegal : Counts → Output → ℕ → Type 0
WritesLegal w o result =
    Writes o 0 (legal_line w) result
    ⊎ Writes o (refusal_status refusal.Memory) (refusal_line refusal.Memory) result

-- an audit, which writes its progress after each so many calls, and then how it ends
abbrev pub TellsAll : ℕ → Input → Output → ℕ → Type 0
TellsAll every i o result =
    (r : Result Counts Refusal) × (reported text : List ℕ) × (status : ℕ) × IsWatchReported every i.had i.left i.failed r reported
    × EndsAs r status text × Writes o status (reported ++ text) result

-- such an audit, or one whose output failed before its end
abbrev pub Watches : ℕ → Input → Output → ℕ → Type 0
Watches every i o result =
    TellsAll every i o result
    ⊎ ((reported : List ℕ) × IsWatchCut every i.had i.left reported × (i.failed ≡ false) × (result ≡ 4) × IsCut o reported)

-- a trace that ends early, behind its first lines: with the line of an allocation failure, or as the output failed
abbrev pub BreaksOff : Input → Output → ℕ → Type 0
BreaksOff i o result =
    (bytes begun : List ℕ) × (h : History) × IsWhole i bytes × ReadsAs bytes h × IsTraceBegun h begun
    × (Writes o (refusal_status refusal.Memory) (begun ++ refusal_line refusal.Memory) result
    ⊎ ((result ≡ 4) × IsCut o begun))

-- a run of the program: how it ends, and what it wrote; an audit and a trace may write before their end
abbrev pub Runs : Words → Input → Output → ℕ → Type 0
Runs words i o result =
    ((status : ℕ) × (text : List ℕ) × Ends words i status text × Writes o status text result)
    ⊎ ((every : ℕ) × AsksFor words (Audit every) × Watches every i o result)
    ⊎ (AsksFor words Trace × BreaksOff i o result)

-- a read of the input or a call of the output failed
abbrev pub HasFailed : Input → Output → Type 0
HasFailed i o = (i.failed ≡ true) ⊎ (o.failed ≡ true)

-- ---- over a reader and a writer that don't record whether a call failed

-- a run, by what the reader had and has left and what the writer held and holds, whatever failed
abbrev pub RunsOver : Words → Known → Known → Known → Known → ℕ → Type 0
RunsOver words had left held holds result =
    (read write flushed : Bool)
    × Runs words (input_of had left read) (output_of held holds write flushed) result

-- the refusal of words that the system couldn't provide, by what the writer held and holds
abbrev pub RefusesKind : ErrorKind → Known → Known → ℕ → Type 0
RefusesKind k held holds result =
    (r : Refusal) × IsRefusalOfKind k r
    × ((write flushed : Bool) × Writes (output_of held holds write flushed) (refusal_status r) (refusal_line r) result)
