use Rattle.std.proofs.Common.{None}
use Rattle.serde_json.specs.View.{view}
use Rattle.asm_journal.specs.Set.{IsSetForm, IsBagForm}
use Rattle.asm_journal.specs.Value.{IsValueForm}
use Rattle.asm_journal.proofs.Carried.{carried_ok, carried_err, refused}
use Rattle.asm_journal.proofs.Values.{value_of_set, value_of_bag}
use Rattle.asm_journal.proofs.form.value.ValueFromJson.from_json.Goals as goal

pub returns-in_err-set : goal.returns-in_err-set
returns-in_err-set c =
    let d = view c.args.json.now in
    let items = view c.in-Some.items.now in
    refused IsValueForm d _ c.in_err-set.field-0.0 c.from_residual.ensures.1
    (λ fault. value_of_set d items None c.in-Some.ensures.some (carried_err IsSetForm items _ _ c.from_json.ensures c.in_err-set.ensures.carried fault))

pub returns-in-Some : goal.returns-in-Some
returns-in-Some c =
    let items = view c.in-Some.items.now in
    (items, c.in-Some.ensures.some, carried_ok IsSetForm items _ c.in_ok-set.set c.from_json.ensures c.in_ok-set.ensures.carried)

pub returns-in_err-bag : goal.returns-in_err-bag
returns-in_err-bag c =
    let d = view c.args.json.now in
    let items = view c.in-Some-one_member.items.now in
    refused IsValueForm d _ c.in_err-bag.field-0.0 c.from_residual-in_err-bag.ensures.1
    (λ fault. value_of_bag d items None c.in-Some-one_member.ensures.some (carried_err IsBagForm items _ _ c.from_json-in-Some-one_member.ensures c.in_err-bag.ensures.carried fault))

pub returns-in-Some-one_member : goal.returns-in-Some-one_member
returns-in-Some-one_member c =
    let items = view c.in-Some-one_member.items.now in
    (items, c.in-Some-one_member.ensures.some, carried_ok IsBagForm items _ c.in_ok-bag.bag c.from_json-in-Some-one_member.ensures c.in_ok-bag.ensures.carried)
