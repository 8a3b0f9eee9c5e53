use Rattle.std.proofs.Common.{◌≡◌, ◌∙◌, sym, ap, subst}
use Rattle.std.specs.Result.{result_ok}
use Rattle.serde_json.specs.View.{view, items_view}
use Rattle.serde_json.specs.Data.{array, string, item}
use Rattle.asm_journal.specs.Element.{IsElementForm, IsLocationForm}
use Rattle.asm_journal.specs.Shape.{AreForms, IsParsed}
use Rattle.asm_journal.proofs.Arrays.{array_is, string_is}
use Rattle.asm_journal.proofs.Carried.{refused}
use Rattle.asm_journal.proofs.Elements.{location_read, no_location}
use Rattle.asm_journal.proofs.form.element.LocationFromJson.from_json.Goals as goal

pub returns-in_err-args : goal.returns-in_err-args
returns-in_err-args c =
    let rest = c.in-Some-split_first.rest.now in
    let list = array_is (view c.args.json.now) (items_view c.in-Some.items.now.items) c.in-Some.ensures in
    let name = string_is (view c.in-Some-split_first.first.now) c.in-Some-as_str.name.now c.in-Some-as_str.ensures in
    let parts : items_view c.in-Some.items.now.items ≡ item (view c.in-Some-split_first.first.now) (items_view rest) = ap items_view (sym c.deref.ensures.value ∙ c.in-Some-split_first.ensures.cases.0) in
    let whole = list ∙ ap array (parts ∙ ap (λ d. item d (items_view rest)) name) in
    refused IsLocationForm (view c.args.json.now) _ c.in_err-args.field-0.0 c.from_residual.ensures.1
    (λ fault. no_location _ c.in-Some-as_str.name.now (items_view rest) whole (c.in_err-args.ensures fault))

pub returns-in-Ok : goal.returns-in-Ok
returns-in-Ok c =
    let rest = c.in-Some-split_first.rest.now in
    let list = array_is (view c.args.json.now) (items_view c.in-Some.items.now.items) c.in-Some.ensures in
    let name = string_is (view c.in-Some-split_first.first.now) c.in-Some-as_str.name.now c.in-Some-as_str.ensures in
    let parts : items_view c.in-Some.items.now.items ≡ item (view c.in-Some-split_first.first.now) (items_view rest) = ap items_view (sym c.deref.ensures.value ∙ c.in-Some-split_first.ensures.cases.0) in
    let whole = list ∙ ap array (parts ∙ ap (λ d. item d (items_view rest)) (name ∙ ap string (sym c.in_ok-from_str.ensures.ok))) in
    let args = subst (λ es. AreForms IsElementForm es (items_view rest)) (sym c.into_vec.ensures) c.in_ok-args.ensures in
    let read = location_read _ _ (items_view rest) c.into_vec.result.items c.into_vec.result.len c.new.result c.into_vec.result.ok.0 whole args c.new.ensures.ok c.new.ensures.bad_name c.new.ensures.many_args in
    subst (λ r. IsParsed IsLocationForm (view c.args.json.now) (result_ok r)) c.in-Ok.is read

pub returns-in-Err : goal.returns-in-Err
returns-in-Err c =
    let rest = c.in-Some-split_first.rest.now in
    let list = array_is (view c.args.json.now) (items_view c.in-Some.items.now.items) c.in-Some.ensures in
    let name = string_is (view c.in-Some-split_first.first.now) c.in-Some-as_str.name.now c.in-Some-as_str.ensures in
    let parts : items_view c.in-Some.items.now.items ≡ item (view c.in-Some-split_first.first.now) (items_view rest) = ap items_view (sym c.deref.ensures.value ∙ c.in-Some-split_first.ensures.cases.0) in
    let whole = list ∙ ap array (parts ∙ ap (λ d. item d (items_view rest)) (name ∙ ap string (sym c.in_ok-from_str.ensures.ok))) in
    let args = subst (λ es. AreForms IsElementForm es (items_view rest)) (sym c.into_vec.ensures) c.in_ok-args.ensures in
    let read = location_read _ _ (items_view rest) c.into_vec.result.items c.into_vec.result.len c.new.result c.into_vec.result.ok.0 whole args c.new.ensures.ok c.new.ensures.bad_name c.new.ensures.many_args in
    λ fault. subst (λ r. IsParsed IsLocationForm (view c.args.json.now) (result_ok r)) c.in-Err.is read
