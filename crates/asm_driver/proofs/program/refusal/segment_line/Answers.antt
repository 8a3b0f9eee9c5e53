use Rattle.std.proofs.Common.{[], ◌∷◌, ◌++◌, codes, append_assoc, ap, sym, ◌∙◌}
use Rattle.std.proofs.lemmas.Result.{IfOk-weaker}
use Rattle.std.specs.Fmt.{decimal}
use Rattle.asm_driver.specs.Refusal.{fault_word}
use Rattle.asm_driver.proofs.program.refusal.segment_line.Goals as goal

pub returns : goal.returns
returns c =
    let begin = codes "segment " in
    let number = decimal c.args.number in
    let word = fault_word c.args.fault in
    let text = sym (append_assoc (begin ++ number ++ codes " ") word (10 ∷ [])
    ∙ append_assoc (begin ++ number) (codes " ") (word ++ 10 ∷ [])
    ∙ append_assoc begin number (codes " " ++ (word ++ 10 ∷ []))) in
    IfOk-weaker c.format.result _ _
    (λ l h. h ∙ ap (λ w. begin ++ (number ++ (codes " " ++ (w ++ 10 ∷ [])))) c.word-word.ensures ∙ text) c.format.ensures.ok
