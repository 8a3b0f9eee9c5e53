use Rattle.std.proofs.Common.{List, map, ap, ◌∙◌, arith}
use Rattle.std.proofs.lemmas.List.{take_all}
use Rattle.asm_element.specs.Datum.{depth}
use Rattle.asm_element.specs.View.{datum, item_is_shallower}
use Rattle.asm_element.specs.declared.element.Element.{Element}
use Rattle.asm_journal.specs.Element.{element_json_of}
use Rattle.asm_journal.proofs.Elements.{list_written}
use Rattle.asm_journal.proofs.form.element.+write_element.Goals as goal

pub write_element-requires : goal.write_element-requires
write_element-requires t c =
    let falls = item_is_shallower c.in-List.list c.items-item-items.result.now c.loop-item.item-index c.item-item.result c.items-item-items.ensures.items (omega (arith, c.loop-item-test.true)) c.item-item.is in
    (omega (arith, falls, ap (λ e. depth (datum e)) c.in-List.is, c.decreases), tt)

pub returns-after-loop-item : goal.returns-after-loop-item
returns-after-loop-item t c =
    let all = take_all c.loop-item.item-index c.items-item-items.result.now c.loop-item-test.false ∙ c.items-item-items.ensures.items in
    list_written c.object_of.result c.loop-item.items.items _ c.in-List.list c.args.element.now c.in-List.is
    (c.loop-item.invariant ∙ ap (λ (es : List Element). map element_json_of es) all) c.array_of.ensures c.object_of.ensures
