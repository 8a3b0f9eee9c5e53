use Rattle.std.proofs.Common.{ap, sym, ◌∙◌, ◌∷◌, ◌+◌, [], map}
use Rattle.std.specs.Prelude.{drop}
use Rattle.std.proofs.lemmas.List.{drop_more, drop_all}
use Rattle.asm_slots.specs.LongLines.{spelled_values}
use Rattle.asm_slots.proofs.LineRooms.{left_end, left_gone, left_none, left_some, left_step, one_seen, seen_size}
use Rattle.asm_slots.proofs.long_lines.values_length.Goals as goal

pub loop-place-preserved : goal.loop-place-preserved
loop-place-preserved g c =
    let l = c.loop-place in
    let seen = g.L.Lookup.value_at c.args.seen.now in
    let xs = c.args.places.now in
    let x = c.place-item.result in
    let p = g.P.HasPlace.place_of x in
    let step = drop_more xs l.place-index x c.loop-place-test.true ∙ ap (λ y. y ∷ drop (l.place-index + 1) xs) (sym c.place-item.is) in
    left_step _ l.left _ _ (seen_size p (seen p)) (spelled_values seen (c.place.result.now ∷ [])) c.in-Some.rest _ l.invariant (ap (λ ys. spelled_values seen (map g.P.HasPlace.place_of ys)) step)
    (one_seen seen p c.place.result.now c.place.ensures) (left_some _ _ _ _ c.in-Some.is c.in_ok-rest.ensures)

pub returns-in-None : goal.returns-in-None
returns-in-None g c =
    let l = c.loop-place in
    let seen = g.L.Lookup.value_at c.args.seen.now in
    let xs = c.args.places.now in
    let x = c.place-item.result in
    let p = g.P.HasPlace.place_of x in
    let step = drop_more xs l.place-index x c.loop-place-test.true ∙ ap (λ y. y ∷ drop (l.place-index + 1) xs) (sym c.place-item.is) in
    left_none _ l.left _ _ (seen_size p (seen p)) (spelled_values seen (c.place.result.now ∷ [])) _ l.invariant (ap (λ ys. spelled_values seen (map g.P.HasPlace.place_of ys)) step)
    (one_seen seen p c.place.result.now c.place.ensures) (left_gone _ _ _ c.in-None.is c.in_ok-rest.ensures)

pub returns : goal.returns
returns g c =
    let l = c.loop-place in
    let seen = g.L.Lookup.value_at c.args.seen.now in
    left_end _ l.left _ _ l.invariant
    (ap (λ ys. spelled_values seen (map g.P.HasPlace.place_of ys)) (drop_all l.place-index c.args.places.now c.loop-place-test.false))
