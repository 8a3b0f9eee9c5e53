use Rattle.std.proofs.Common.{ap, sym, ◌∙◌, ◌∷◌, ◌++◌, [], ◌+◌, arith, codes, map, refl, string_bytes}
use Rattle.std.specs.Prelude.{drop}
use Rattle.std.proofs.lemmas.List.{drop_more, drop_all}
use Rattle.serde_json.specs.View.{items_of}
use Rattle.serde_json.specs.Written.{compact_text}
use Rattle.asm_element.specs.Datum.{depth}
use Rattle.asm_element.specs.View.{datum, item_is_shallower}
use Rattle.asm_journal.specs.Element.{element_json_of}
use Rattle.asm_journal.proofs.Elements.{list_is_spelt}
use Rattle.asm_journal.proofs.Spelt.{spelt_more, spelt_all, two_pieces, one_list}
use Rattle.asm_journal.proofs.spelling.element.+push_element.Goals as goal

pub push_element-requires : goal.push_element-requires
push_element-requires t c =
    let falls = item_is_shallower c.in-List.list c.items-item-items.result.now c.loop-item.item-index c.item-item.result c.items-item-items.ensures.items (omega (arith, c.loop-item-test.true)) c.item-item.is in
    (omega (arith, falls, ap (λ e. depth (datum e)) c.in-List.is, c.decreases), tt)

pub loop-item-preserved : goal.loop-item-preserved
loop-item-preserved t c =
    let l = c.loop-item in
    let xs = c.items-item-items.result.now in
    let x = c.item-item.result in
    let step = drop_more xs l.item-index x c.loop-item-test.true ∙ ap (λ y. y ∷ drop (l.item-index + 1) xs) (sym c.item-item.is) in
    spelt_more element_json_of _ _ _ l.later x _ _ l.invariant step
    (two_pieces _ _ _ _ _ c.in_ok-push_comma-in-List.ensures c.in_ok-push_element-in-List.ensures)

pub returns-in_ok-push_close-in-List : goal.returns-in_ok-push_close-in-List
returns-in_ok-push_close-in-List t c =
    let l = c.loop-item in
    let xs = c.items-item-items.result.now in
    let text = string_bytes l.text in
    let none = drop_all l.item-index xs c.loop-item-test.false in
    let items = spelt_all element_json_of text (text ++ 93 ∷ []) _ l.later _ l.invariant none refl in
    one_list _ _ text _ (codes "list") (items_of (map element_json_of xs)) c.in_ok-push_open-in-List.ensures items c.in_ok-push_close-in-List.ensures
    ∙ ap (λ k. string_bytes c.args.text.now ++ compact_text k)
    (list_is_spelt xs c.in-List.list c.args.element.now c.in-List.is c.items-item-items.ensures.items)
