use Rattle.std.proofs.Common.{ap, arith, sym, refl, ◌∙◌, ◌∷◌, ◌+◌, map}
use Rattle.std.specs.Prelude.{drop}
use Rattle.std.proofs.lemmas.List.{drop_more, drop_all}
use Rattle.asm_slots.specs.LongLines.{spelled, spelled_list}
use Rattle.asm_slots.proofs.LineRooms.{room_end, room_step}
use Rattle.asm_slots.proofs.line_room.items_room.Goals as goal

pub loop-item-preserved : goal.loop-item-preserved
loop-item-preserved g c =
    let l = c.loop-item in
    let f = g.T.ToJson.json_of in
    let xs = c.args.items.now in
    let x = c.item-item.result in
    let step = drop_more xs l.item-index x c.loop-item-test.true ∙ ap (λ y. y ∷ drop (l.item-index + 1) xs) (sym c.item-item.is) in
    room_step _ l.left _ _ (spelled (f x) + 1) _ _ _ l.invariant (ap (λ ys. spelled_list (map f ys)) step) refl
    (omega (arith, c.in_ok-less.ensures, c.in_ok-left.ensures))

pub returns : goal.returns
returns g c =
    let l = c.loop-item in
    let f = g.T.ToJson.json_of in
    room_end _ l.left _ _ l.invariant (ap (λ ys. spelled_list (map f ys)) (drop_all l.item-index c.args.items.now c.loop-item-test.false))
