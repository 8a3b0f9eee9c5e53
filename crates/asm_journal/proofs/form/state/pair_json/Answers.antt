use Rattle.std.proofs.Common.{[], ◌∷◌, ap₂, ◌∙◌}
use Rattle.std.proofs.lemmas.Result.{IfOk-weaker}
use Rattle.asm_journal.specs.Shape.{list_of}
use Rattle.asm_journal.proofs.form.state.pair_json.Goals as goal

pub returns : goal.returns
returns c =
    let both = ap₂ (λ a b. list_of (a ∷ b ∷ [])) c.in_ok-to_json.ensures c.in_ok-to_json-2.ensures in
    IfOk-weaker c.pair_of.result _ _ (λ json is. is ∙ both) c.pair_of.ensures
