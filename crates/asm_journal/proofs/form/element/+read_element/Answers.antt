use Rattle.std.proofs.Common.{List, subst, arith}
use Rattle.std.specs.Prelude.{option_map}
use Rattle.std.specs.Result.{result_ok}
use Rattle.std.proofs.lemmas.List.{take_all, take_more}
use Rattle.serde_json.specs.View.{view, items_view}
use Rattle.serde_json.specs.declared.value.Value.{Value as Json}
use Rattle.asm_element.specs.declared.element.Element.TheVariants as elements
use Rattle.asm_journal.specs.Element.{IsElementForm}
use Rattle.asm_journal.specs.Shape.{AreForms, IsParsed}
use Rattle.asm_journal.proofs.Arrays.{AreForms-push, no_forms}
use Rattle.asm_journal.proofs.Carried.{carried_ok, carried_err, refused}
use Rattle.asm_journal.proofs.Elements.{list_json, list_read, no_list}
use Rattle.asm_journal.proofs.Clean.{item_is_shallower}
use Rattle.asm_journal.proofs.form.element.+read_element.Goals as goal

pub read_list-read_element-requires : goal.read_list-read_element-requires
read_list-read_element-requires t c =
    (omega (arith, c.decreases, item_is_shallower c.args.items.now c.loop-index.index c.index-items-index.result (omega (arith, c.loop-index-test.true)) c.index-items-index.is), tt)

pub read_list-returns-in_err-within : goal.read_list-returns-in_err-within
read_list-returns-in_err-within t c =
    let ds = items_view c.args.items.now in
    let v = c.index-items-index.result in
    refused IsElementForm (list_json ds) _ c.in_err-within.field-0.0 c.from_residual-in_err-within.ensures.1
    (λ fault. no_list ds
    (no_forms IsElementForm c.args.items.now c.loop-index.index v c.loop-index-test.true
    (λ x. rw (← c.index-items-index.is) (carried_err IsElementForm (view v) _ _ c.read_element.ensures c.in_err-within.ensures.carried fault x))))

pub read_list-loop-index-preserved : goal.read_list-loop-index-preserved
read_list-loop-index-preserved t c =
    let v = c.index-items-index.result in
    let x = c.in_ok-within.field-0 in
    let some = carried_ok IsElementForm (view v) _ x c.read_element.ensures c.in_ok-within.ensures.carried in
    let pushed = AreForms-push IsElementForm c.loop-index.found.items x _ v c.loop-index.invariant some in
    rw (c.in_ok-push.ensures.items, take_more c.args.items.now c.loop-index.index v c.loop-index-test.true, ← c.index-items-index.is) pushed

pub read_list-returns-in-Ok : goal.read_list-returns-in-Ok
read_list-returns-in-Ok t c =
    let ds = items_view c.args.items.now in
    let all = take_all c.loop-index.index c.args.items.now c.loop-index-test.false in
    let forms = subst (λ (vs : List Json). AreForms IsElementForm c.loop-index.found.items (items_view vs)) all c.loop-index.invariant in
    let read = list_read ds c.loop-index.found.items c.loop-index.found.len c.new.result c.loop-index.found.ok.0 forms c.new.ensures.ok c.new.ensures.many_items c.new.ensures.too_deep in
    subst (λ r. IsParsed IsElementForm (list_json ds) (option_map elements.List (result_ok r))) c.in-Ok.is read

pub read_list-returns-in-Err : goal.read_list-returns-in-Err
read_list-returns-in-Err t c =
    let ds = items_view c.args.items.now in
    let all = take_all c.loop-index.index c.args.items.now c.loop-index-test.false in
    let forms = subst (λ (vs : List Json). AreForms IsElementForm c.loop-index.found.items (items_view vs)) all c.loop-index.invariant in
    let read = list_read ds c.loop-index.found.items c.loop-index.found.len c.new.result c.loop-index.found.ok.0 forms c.new.ensures.ok c.new.ensures.many_items c.new.ensures.too_deep in
    λ fault. subst (λ r. IsParsed IsElementForm (list_json ds) (option_map elements.List (result_ok r))) c.in-Err.is read
