use Rattle.std.proofs.Common.{◌≡◌, ℕ, List, [], ◌∷◌, ◌++◌, ap, sym, ◌∙◌, append_assoc, codes, refl}
use Rattle.std.specs.Fmt.{decimal}
use Rattle.asm_journal.specs.declared.error.JournalError.{JournalError}
use Rattle.asm_driver.specs.Refusal.{line_bytes, journal_line}
use Rattle.asm_driver.proofs.program.refusal.journal_line.Goals as goal
use Rattle.asm_driver.proofs.program.refusal.journal_line.Goals.{in-NotJson+in_ok-format-in-NotJson}
use Rattle.asm_driver.proofs.program.refusal.journal_line.Goals.{in-Shape+in_ok-format-in-Shape, in-Version, in-Cut}
use Rattle.asm_driver.proofs.program.refusal.journal_line.Goals.{in-Memory}

-- a number and what stands behind it, with the line feed
ended : (n : ℕ) (rest : List ℕ) (e f : JournalError) → e ≡ f
    → journal_line f ≡ codes "journal line " ++ ((decimal n ++ rest) ++ 10 ∷ [])
    → codes "journal line " ++ (decimal n ++ (rest ++ 10 ∷ [])) ≡ journal_line e
ended n rest e f is line =
    sym (ap (λ t. codes "journal line " ++ t) (append_assoc (decimal n) rest (10 ∷ []))) ∙ sym line
    ∙ ap journal_line (sym is)

pub returns-clause-line : goal.returns-clause-line
returns-clause-line c = elim c.match-error.branch [
  | in-NotJson+in_ok-format-in-NotJson w ↦ ap line_bytes w.result-is ∙ w.in_ok-format-in-NotJson.ensures.ok
      ∙ ended w.in-NotJson.line (codes ": not JSON") _ _ w.in-NotJson.is refl
  | in-Shape+in_ok-format-in-Shape w ↦ ap line_bytes w.result-is ∙ w.in_ok-format-in-Shape.ensures.ok
      ∙ ended w.in-Shape.line (codes ": shape") _ _ w.in-Shape.is refl
  | in-Version w ↦ ap line_bytes w.result-is ∙ ap journal_line (sym w.in-Version.is)
  | in-Cut w ↦ ap line_bytes w.result-is ∙ ap journal_line (sym w.in-Cut.is)
  | in-Memory w ↦ ap line_bytes w.result-is ∙ ap journal_line (sym w.in-Memory.is)
]
