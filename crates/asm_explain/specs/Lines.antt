-- The sentence on a journal's first fault.
use Rattle.std.specs.Prelude.{◌≡◌, ◌≢◌, ◌≤◌, ◌==◌, ◌+◌, ◌++◌, ℕ, List, [], codes, count_by, length}
use Rattle.std.specs.Fmt.{decimal}
use Rattle.asm_journal.specs.Fault.{IsRefused}
use Rattle.asm_journal.specs.Reading.{HasNoLineFeed}
use Rattle.asm_explain.specs.Limits.{sentence_limit}
use Rattle.asm_journal.specs.declared.error.JournalError.{JournalError}
use Rattle.asm_journal.specs.declared.error.JournalError.TheVariants as error

-- the sentence that says this of a line
abbrev pub line_sentence : ℕ → List ℕ → List ℕ
line_sentence k why = codes "journal line " ++ decimal k ++ codes ": " ++ why

-- the sentence names this line, and then says something of it, in one line
abbrev pub NamesLine : ℕ → List ℕ → Type 0
NamesLine k sentence =
    (why : List ℕ) × (why ≢ []) × HasNoLineFeed why × (length why ≤ sentence_limit) × (sentence ≡ line_sentence k why)

-- the number of the last line: it is behind all line feeds, and is empty where the text ends with one
abbrev pub last_line : List ℕ → ℕ
last_line text = count_by (λ b. b == 10) text + 1

-- the sentence names the line of this fault of the text; of a journal that is cut, its last line, which isn't complete
abbrev pub ReportsFault : List ℕ → JournalError → List ℕ → Type 0
ReportsFault text (error.NotJson k) sentence = NamesLine k sentence
ReportsFault text (error.Shape k) sentence = NamesLine k sentence
ReportsFault text error.Version sentence = NamesLine 1 sentence
ReportsFault text error.Cut sentence = NamesLine (last_line text) sentence
ReportsFault text error.Memory sentence = ⊥

-- the text is refused as a journal, and the sentence names the line of its first fault
abbrev pub ReportsRefusal : List ℕ → List ℕ → Type 0
ReportsRefusal text sentence = (e : JournalError) × IsRefused text e × ReportsFault text e sentence
