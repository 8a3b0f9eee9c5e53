-- What is reported of the bytes of a journal.
use Rattle.std.specs.Prelude.{◌≡◌, ◌⊎◌, ℕ, List}
use Rattle.serde_json.specs.Written.{compact_text}
use Rattle.asm_update.specs.Fire.{state_of}
use Rattle.asm_storage.specs.declared.history.History.{History}
use Rattle.asm_storage.specs.History.{fired_moves}
use Rattle.asm_journal.specs.declared.checking.Legality.{Legality}
use Rattle.asm_journal.specs.declared.checking.Legality.TheVariants.{Legal, Illegal}
use Rattle.asm_journal.specs.declared.error.JournalError.{JournalError}
use Rattle.asm_journal.specs.declared.error.JournalError.TheVariants.{NotJson, Shape, Version, Cut, Memory}
use Rattle.asm_journal.specs.Check.{machine_of, IsLegality}
use Rattle.asm_journal.specs.Fault.{IsRefused}
use Rattle.asm_journal.specs.Reading.{ReadsAs}
use Rattle.asm_journal.specs.Text.{state_json_of}
use Rattle.asm_trace.specs.Text.{IsTrace}
use Rattle.asm_slots.specs.Standard.{part}
use Rattle.asm_slots.specs.declared.codes.Code.{Code}
use Rattle.asm_slots.specs.declared.codes.Code.TheVariants as code

-- the bytes are a journal, and this is the answer of its check
pub record IsChecked (bytes : List ℕ) (l : Legality) : Type 0 where
  pub history : History
  pub reads : ReadsAs bytes history
  pub reported : IsLegality (machine_of part history) history.events l

-- the bytes are a journal, and this is the text of the state that its moves leave
pub record IsReplayed (bytes text : List ℕ) : Type 0 where
  pub history : History
  pub reads : ReadsAs bytes history
  pub left : text ≡ compact_text (state_json_of (state_of part history.init (fired_moves history.events)))

-- the bytes are a journal, and this is its trace
pub record IsTraceOf (bytes text : List ℕ) : Type 0 where
  pub history : History
  pub reads : ReadsAs bytes history
  pub trace : IsTrace part history text

-- the code of the error
abbrev pub code_of_journal : JournalError → Code
code_of_journal (NotJson n) = code.NotJson
code_of_journal (Shape n) = code.Shape
code_of_journal Version = code.Version
code_of_journal Cut = code.Cut
code_of_journal Memory = code.Memory

-- the number of its line, or 0
abbrev pub line_of : JournalError → ℕ
line_of (NotJson n) = n
line_of (Shape n) = n
line_of _ = 0

-- the bytes are no journal, and this is the code of their first fault, with this number of its line; an allocation
-- failure says nothing of them
abbrev pub IsNoJournal : List ℕ → ℕ → Code → Type 0
IsNoJournal bytes line c = (e : JournalError) × IsRefused bytes e × (c ≡ code_of_journal e) × (line ≡ line_of e)

-- the bytes are a legal journal of so many calls and moves
abbrev pub Checks : List ℕ → ℕ → ℕ → Type 0
Checks bytes calls moves = IsChecked bytes (Legal calls moves)

-- they are a journal whose call with this number has a wrong answer, or none
abbrev pub DoesNotCheck : List ℕ → ℕ → ℕ → Code → Type 0
DoesNotCheck bytes calls moves c =
    (moves ≡ 0) × (((c ≡ code.Illegal) × IsChecked bytes (Illegal calls)) ⊎ IsNoJournal bytes calls c)
