use Rattle.std.proofs.Common.{[], ◌∷◌, ◌++◌, codes, append_assoc, ap, sym, ◌∙◌}
use Rattle.std.proofs.lemmas.Result.{IfOk-weaker}
use Rattle.std.specs.Fmt.{decimal}
use Rattle.asm_driver.proofs.program.refusal.few_calls_line.Goals as goal

pub returns : goal.returns
returns c =
    let part = decimal c.args.part in
    let calls = decimal c.args.calls in
    let has = part ++ codes " has " in
    let text = sym (append_assoc part (codes " has ") (calls ++ (codes " calls" ++ 10 ∷ [])))
    ∙ sym (append_assoc has calls (codes " calls" ++ 10 ∷ []))
    ∙ sym (append_assoc (has ++ calls) (codes " calls") (10 ∷ [])) in
    IfOk-weaker c.format.result _ _ (λ l h. h ∙ ap (λ t. codes "part " ++ t) text) c.format.ensures.ok
