use Rattle.std.proofs.Common.{subst}
use Rattle.serde_json.specs.View.{view}
use Rattle.asm_journal.specs.Shape.{IsParsed}
use Rattle.asm_journal.specs.Value.{IsPairForm, IsStateOf, IsStateForm}
use Rattle.asm_journal.proofs.Carried.{refused}
use Rattle.asm_journal.proofs.Elements.{made_read, list_seen}
use Rattle.asm_journal.proofs.Values.{pair_seen, pairs_seen, no_pairs, pair_once}
use Rattle.asm_journal.proofs.form.state.PlainStateFromJson.from_json.Goals as goal

pub returns-in_err-pairs : goal.returns-in_err-pairs
returns-in_err-pairs c =
    let d = view c.args.json.now in
    refused IsStateForm d _ c.in_err-pairs.field-0.0 c.from_residual.ensures.1
    (λ fault b h. no_pairs d (c.in_err-pairs.ensures fault) h.0 h.1)

pub returns-in-Some : goal.returns-in-Some
returns-in-Some c =
    let d = view c.args.json.now in
    let o = c.in_ok-state.field-0 in
    let form = list_seen pair_seen IsPairForm c.in_ok-pairs.pairs d c.in_ok-pairs.ensures in
    let made = subst (λ items. IsParsed IsStateOf (pairs_seen items) o) c.into_vec.ensures c.in_ok-state.ensures in
    subst (IsParsed IsStateForm d) c.in-Some.is (made_read IsPairForm IsStateOf pair_once d (pairs_seen c.in_ok-pairs.pairs) o form made)

pub returns-in-None : goal.returns-in-None
returns-in-None c =
    let d = view c.args.json.now in
    let o = c.in_ok-state.field-0 in
    let form = list_seen pair_seen IsPairForm c.in_ok-pairs.pairs d c.in_ok-pairs.ensures in
    let made = subst (λ items. IsParsed IsStateOf (pairs_seen items) o) c.into_vec.ensures c.in_ok-state.ensures in
    λ fault. subst (IsParsed IsStateForm d) c.in-None.is (made_read IsPairForm IsStateOf pair_once d (pairs_seen c.in_ok-pairs.pairs) o form made)
