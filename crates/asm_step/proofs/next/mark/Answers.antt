use Rattle.std.proofs.Common.{◌≡◌, true, false, cond, not, Option, Some, None, is_some, refl, ap, sym, ◌∙◌, rules}
use Rattle.std.specs.Prelude.{is_none}
use Rattle.asm_update.specs.declared.action.Family.{Family}
use Rattle.asm_step.specs.Outcomes.{with_put}
use Rattle.asm_step.proofs.next.mark.Goals as goal

none_by : (o : Option Family) → is_none o ≡ not (is_some o)
none_by (Some f) = refl
none_by None = refl

pub returns-then-is_some : goal.returns-then-is_some
returns-then-is_some c =
    let os = c.args.outcomes.now in
    let some : is_some c.family.result ≡ true = search rules in
    sym (ap (λ b. cond b (with_put c.args.instruction.now.at os) os)
    (ap is_none (sym c.family.ensures) ∙ none_by c.family.result ∙ ap not some))

pub returns : goal.returns
returns c =
    let os = c.args.outcomes.now in
    let none : is_some c.family.result ≡ false = search rules in
    c.mark.ensures
    ∙ sym (ap (λ b. cond b (with_put c.args.instruction.now.at os) os)
    (ap is_none (sym c.family.ensures) ∙ none_by c.family.result ∙ ap not none))
