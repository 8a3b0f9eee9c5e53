-- What the program writes about a text that is refused, and about one that is accepted.
use Rattle.std.specs.Prelude.{◌≡◌, ◌≢◌, ◌≤◌, ◌⊎◌, ℕ, List, [], length}
use Rattle.asm_storage.specs.declared.history.History.{History}
use Rattle.asm_journal.specs.Reading as journal
use Rattle.asm_explain.specs.Forms.{IsOfForm, IsOfNoForm}
use Rattle.asm_journal.specs.Reading.{HasNoLineFeed}
use Rattle.asm_explain.specs.Limits.{sentence_limit}
use Rattle.asm_explain.specs.Lines.{ReportsRefusal}
use Rattle.asm_explain.specs.declared.explaining.Form.TheVariants as form
use Rattle.asm_driver.specs.Report.{line}
use Rattle.asm_driver.specs.declared.program.words.TextKind.{TextKind}
use Rattle.asm_driver.specs.declared.program.words.TextKind.TheVariants.{Script, Journal}

-- the bytes are a script, or a journal
abbrev pub IsAccepted : TextKind → List ℕ → Type 0
IsAccepted Script bytes = IsOfForm form.Script bytes
IsAccepted Journal bytes = (h : History) × journal.ReadsAs bytes h

-- the bytes are none, and the sentence says something about that, in one line within the limit; for a journal, first the
-- line of its first fault
abbrev pub IsRefused : TextKind → List ℕ → List ℕ → Type 0
IsRefused Script bytes sentence =
    IsOfNoForm form.Script bytes × (sentence ≢ []) × HasNoLineFeed sentence × (length sentence ≤ sentence_limit)
IsRefused Journal bytes sentence = ReportsRefusal bytes sentence

-- nothing with status 0 if the bytes are accepted, or a line with status 1 if they are refused
abbrev pub IsExplained : List ℕ → TextKind → ℕ → List ℕ → Type 0
IsExplained bytes t status text =
    ((status ≡ 0) × (text ≡ []) × IsAccepted t bytes)
    ⊎ ((status ≡ 1) × ((sentence : List ℕ) × IsRefused t bytes sentence × (text ≡ line sentence)))
