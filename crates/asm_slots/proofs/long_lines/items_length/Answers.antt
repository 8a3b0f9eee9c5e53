use Rattle.std.proofs.Common.{ap, refl, sym, ◌∙◌, ◌∷◌, ◌+◌, map}
use Rattle.std.specs.Prelude.{drop}
use Rattle.std.proofs.lemmas.List.{drop_more, drop_all}
use Rattle.asm_slots.specs.LongLines.{spelled, spelled_list}
use Rattle.asm_slots.proofs.LineRooms.{left_end, left_gone, left_none, left_some, left_step}
use Rattle.asm_slots.proofs.long_lines.items_length.Goals as goal

pub loop-item-preserved : goal.loop-item-preserved
loop-item-preserved g c =
    let l = c.loop-item in
    let f = g.T.ToJson.json_of in
    let xs = c.args.items.now in
    let x = c.item-item.result in
    let step = drop_more xs l.item-index x c.loop-item-test.true ∙ ap (λ y. y ∷ drop (l.item-index + 1) xs) (sym c.item-item.is) in
    left_step _ l.left _ _ (spelled (f x) + 1) _ c.in-Some.rest _ l.invariant (ap (λ ys. spelled_list (map f ys)) step) refl
    (left_some _ _ _ _ c.in-Some.is c.in_ok-rest.ensures)

pub returns-in-None : goal.returns-in-None
returns-in-None g c =
    let l = c.loop-item in
    let f = g.T.ToJson.json_of in
    let xs = c.args.items.now in
    let x = c.item-item.result in
    let step = drop_more xs l.item-index x c.loop-item-test.true ∙ ap (λ y. y ∷ drop (l.item-index + 1) xs) (sym c.item-item.is) in
    left_none _ l.left _ _ (spelled (f x) + 1) _ _ l.invariant (ap (λ ys. spelled_list (map f ys)) step) refl
    (left_gone _ _ _ c.in-None.is c.in_ok-rest.ensures)

pub returns : goal.returns
returns g c =
    let l = c.loop-item in
    let f = g.T.ToJson.json_of in
    left_end _ l.left _ _ l.invariant (ap (λ ys. spelled_list (map f ys)) (drop_all l.item-index c.args.items.now c.loop-item-test.false))
