use Rattle.std.proofs.Common.{subst}
use Rattle.serde_json.specs.View.{view}
use Rattle.asm_journal.specs.Shape.{IsParsed}
use Rattle.asm_journal.specs.Set.{IsCountForm, IsBagOf, IsBagForm}
use Rattle.asm_journal.proofs.Carried.{refused}
use Rattle.asm_journal.proofs.Elements.{made_read, list_seen, count_of, counts_of, no_counts, count_once}
use Rattle.asm_journal.proofs.form.set.ElemBagFromJson.from_json.Goals as goal

pub returns-in_err-counts : goal.returns-in_err-counts
returns-in_err-counts c =
    let d = view c.args.json.now in
    refused IsBagForm d _ c.in_err-counts.field-0.0 c.from_residual.ensures.1
    (λ fault b h. no_counts d (c.in_err-counts.ensures fault) h.0 h.1)

pub returns-in-Some : goal.returns-in-Some
returns-in-Some c =
    let d = view c.args.json.now in
    let o = c.in_ok-bag.field-0 in
    let form = list_seen count_of IsCountForm c.in_ok-counts.counts d c.in_ok-counts.ensures in
    let made = subst (λ items. IsParsed IsBagOf (counts_of items) o) c.into_vec.ensures c.in_ok-bag.ensures in
    subst (IsParsed IsBagForm d) c.in-Some.is (made_read IsCountForm IsBagOf count_once d (counts_of c.in_ok-counts.counts) o form made)

pub returns-in-None : goal.returns-in-None
returns-in-None c =
    let d = view c.args.json.now in
    let o = c.in_ok-bag.field-0 in
    let form = list_seen count_of IsCountForm c.in_ok-counts.counts d c.in_ok-counts.ensures in
    let made = subst (λ items. IsParsed IsBagOf (counts_of items) o) c.into_vec.ensures c.in_ok-bag.ensures in
    λ fault. subst (IsParsed IsBagForm d) c.in-None.is (made_read IsCountForm IsBagOf count_once d (counts_of c.in_ok-counts.counts) o form made)
