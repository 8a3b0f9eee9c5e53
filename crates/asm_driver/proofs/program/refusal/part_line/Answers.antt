use Rattle.std.proofs.Common.{◌≡◌, ℕ, List, [], ◌∷◌, ◌++◌, codes, append_assoc, refl, ap, sym, ◌∙◌}
use Rattle.std.proofs.lemmas.Result.{IfOk-weaker}
use Rattle.std.specs.Fmt.{decimal}
use Rattle.asm_journal.specs.declared.error.JournalError.{JournalError}
use Rattle.asm_journal.specs.declared.error.JournalError.TheVariants.{NotJson, Shape, Version, Cut, Memory}
use Rattle.asm_driver.specs.Refusal.{journal_line, part_line}
use Rattle.asm_driver.proofs.program.refusal.part_line.Goals as goal

-- the part's number, and then the line of its journal's fault
part_with : (part : ℕ) (text : List ℕ) (e f : JournalError) → e ≡ f → codes " " ++ journal_line f ≡ text →
    codes "part " ++ (decimal part ++ text) ≡ part_line part e
part_with part text e f is line =
    ap (λ t. codes "part " ++ (decimal part ++ t)) (sym line)
    ∙ ap (λ t. codes "part " ++ t) (sym (append_assoc (decimal part) (codes " ") (journal_line f)))
    ∙ ap (part_line part) (sym is)

-- a number of a line and what stands behind it, with the line feed
numbered : (n : ℕ) (rest : List ℕ) → codes " journal line " ++ ((decimal n ++ rest) ++ 10 ∷ [])
    ≡ codes " journal line " ++ (decimal n ++ (rest ++ 10 ∷ []))
numbered n rest = ap (λ t. codes " journal line " ++ t) (append_assoc (decimal n) rest (10 ∷ []))

pub returns-in-NotJson : goal.returns-in-NotJson
returns-in-NotJson c =
    let n = c.in-NotJson.line in
    IfOk-weaker c.format.result _ _
    (λ l h. h ∙ part_with c.args.part (codes " journal line " ++ (decimal n ++ (codes ": not JSON" ++ 10 ∷ []))) c.args.fault
    (NotJson n) c.in-NotJson.is (numbered n (codes ": not JSON"))) c.format.ensures.ok

pub returns-in-Shape : goal.returns-in-Shape
returns-in-Shape c =
    let n = c.in-Shape.line in
    IfOk-weaker c.format-in-Shape.result _ _
    (λ l h. h ∙ part_with c.args.part (codes " journal line " ++ (decimal n ++ (codes ": shape" ++ 10 ∷ []))) c.args.fault
    (Shape n) c.in-Shape.is (numbered n (codes ": shape"))) c.format-in-Shape.ensures.ok

pub returns-in-Version : goal.returns-in-Version
returns-in-Version c =
    IfOk-weaker c.format-in-Version.result _ _
    (λ l h. h ∙ part_with c.args.part (codes " journal version" ++ 10 ∷ []) c.args.fault Version c.in-Version.is refl)
    c.format-in-Version.ensures.ok

pub returns-in-Cut : goal.returns-in-Cut
returns-in-Cut c =
    IfOk-weaker c.format-in-Cut.result _ _
    (λ l h. h ∙ part_with c.args.part (codes " journal cut" ++ 10 ∷ []) c.args.fault Cut c.in-Cut.is refl)
    c.format-in-Cut.ensures.ok

pub returns-in-Memory : goal.returns-in-Memory
returns-in-Memory c =
    IfOk-weaker c.format-in-Memory.result _ _
    (λ l h. h ∙ part_with c.args.part (codes " out of memory" ++ 10 ∷ []) c.args.fault Memory c.in-Memory.is refl)
    c.format-in-Memory.ensures.ok
