use Rattle.std.proofs.Common.{◌≡◌, true, false, cond, not, [], ◌∷◌, ◌++◌, append-nil, ap, sym, rules, ◌∙◌}
use Rattle.std.proofs.lemmas.Result.{on_ok_weaker}
use Rattle.asm_step.proofs.step.Step.take_one.Goals as goal

pub returns-then-acts_at-clause-shared : goal.returns-then-acts_at-clause-shared
returns-then-acts_at-clause-shared c =
    let list = c.args.shared.now in
    let x = c.args.instruction.now in
    let is : c.acts_at.result ≡ true = search rules in
    on_ok_weaker c.push_within.result
    (λ p. p
    ∙ (λ j. list ++ record { at = c.in_ok-copy.ensures j; action = c.in_ok-clone.ensures.cases j } ∷ [])
    ∙ ap (λ b. list ++ cond b (x ∷ []) []) (sym (sym c.acts_at.ensures ∙ is)))
    c.push_within.ensures

pub returns-then-acts_at-clause-apart : goal.returns-then-acts_at-clause-apart
returns-then-acts_at-clause-apart c =
    let list = c.args.apart.now in
    let x = c.args.instruction.now in
    let is : c.acts_at.result ≡ true = search rules in
    on_ok_weaker c.push_within.result
    (λ p. sym (append-nil list) ∙ ap (λ b. list ++ cond (not b) (x ∷ []) []) (sym (sym c.acts_at.ensures ∙ is)))
    c.push_within.ensures

pub returns-clause-shared : goal.returns-clause-shared
returns-clause-shared c =
    let list = c.args.shared.now in
    let x = c.args.instruction.now in
    let is : c.acts_at.result ≡ false = search rules in
    on_ok_weaker c.push_within-2.result
    (λ p. sym (append-nil list) ∙ ap (λ b. list ++ cond b (x ∷ []) []) (sym (sym c.acts_at.ensures ∙ is)))
    c.push_within-2.ensures

pub returns-clause-apart : goal.returns-clause-apart
returns-clause-apart c =
    let list = c.args.apart.now in
    let x = c.args.instruction.now in
    let is : c.acts_at.result ≡ false = search rules in
    on_ok_weaker c.push_within-2.result
    (λ p. p
    ∙ (λ j. list ++ record { at = c.in_ok-copy.ensures j; action = c.in_ok-clone.ensures.cases j } ∷ [])
    ∙ ap (λ b. list ++ cond (not b) (x ∷ []) []) (sym (sym c.acts_at.ensures ∙ is)))
    c.push_within-2.ensures
