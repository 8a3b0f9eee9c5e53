use Rattle.std.proofs.Common.{ap, arith, codes, map, refl, sym, ◌∙◌, ◌∷◌, ◌+◌}
use Rattle.std.specs.Prelude.{drop}
use Rattle.std.proofs.lemmas.List.{drop_more, drop_all}
use Rattle.asm_element.specs.Datum.{depth}
use Rattle.asm_element.specs.View.{datum, item_is_shallower}
use Rattle.asm_journal.specs.Element.{element_json_of}
use Rattle.asm_journal.proofs.Elements.{list_is_spelt}
use Rattle.asm_slots.specs.LongLines.{spelled, spelled_list}
use Rattle.asm_slots.proofs.LineRooms.{list_room, one_short, room_end, room_step}
use Rattle.asm_slots.proofs.line_room.+element_room.Goals as goal

pub element_room-requires : goal.element_room-requires
element_room-requires t c =
    let falls = item_is_shallower c.in-List.list c.items-item-items.result.now c.loop-item.item-index c.item-item.result c.items-item-items.ensures.items (omega (arith, c.loop-item-test.true)) c.item-item.is in
    (omega (arith, falls, ap (λ e. depth (datum e)) c.in-List.is, c.decreases), tt)

pub loop-item-preserved : goal.loop-item-preserved
loop-item-preserved t c =
    let l = c.loop-item in
    let xs = c.items-item-items.result.now in
    let x = c.item-item.result in
    let step = drop_more xs l.item-index x c.loop-item-test.true ∙ ap (λ y. y ∷ drop (l.item-index + 1) xs) (sym c.item-item.is) in
    room_step _ l.left _ _ (spelled (element_json_of x) + 1) _ _ _ l.invariant (ap (λ ys. spelled_list (map element_json_of ys)) step) refl
    (omega (arith, c.in_ok-less-in-List.ensures, c.in_ok-left-in-List-2.ensures))

pub returns-after-loop-item : goal.returns-after-loop-item
returns-after-loop-item t c =
    let l = c.loop-item in
    let xs = c.items-item-items.result.now in
    let none = drop_all l.item-index xs c.loop-item-test.false in
    let all = room_end _ l.left _ _ l.invariant (ap (λ ys. spelled_list (map element_json_of ys)) none) in
    let same = ap spelled (list_is_spelt xs c.in-List.list c.args.element.now c.in-List.is c.items-item-items.ensures.items) in
    list_room _ _ (spelled_list (map element_json_of xs)) l.left _ _ all same (omega (arith, one_short (codes "list") (map element_json_of xs))) c.in_ok-left-in-List.ensures
