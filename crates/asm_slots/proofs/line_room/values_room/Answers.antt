use Rattle.std.proofs.Common.{ap, sym, ◌∙◌, ◌∷◌, ◌+◌, map}
use Rattle.std.specs.Prelude.{drop}
use Rattle.std.proofs.lemmas.List.{drop_more, drop_all}
use Rattle.asm_slots.specs.LongLines.{spelled_values}
use Rattle.asm_slots.proofs.LineRooms.{room_end, room_step, same_seen, seen_size}
use Rattle.asm_slots.proofs.line_room.values_room.Goals as goal

pub loop-place-preserved : goal.loop-place-preserved
loop-place-preserved g c =
    let l = c.loop-place in
    let seen = g.L.Lookup.value_at c.args.seen.now in
    let xs = c.args.places.now in
    let x = c.place-item.result in
    let p = g.P.HasPlace.place_of x in
    let step = drop_more xs l.place-index x c.loop-place-test.true ∙ ap (λ y. y ∷ drop (l.place-index + 1) xs) (sym c.place-item.is) in
    room_step _ l.left _ _ (seen_size p (seen p)) _ _ _ l.invariant (ap (λ ys. spelled_values seen (map g.P.HasPlace.place_of ys)) step)
    (sym (same_seen seen c.place-at.result.now p _ c.place-at.ensures c.get.ensures.value)) c.in_ok-left.ensures

pub returns : goal.returns
returns g c =
    let l = c.loop-place in
    let seen = g.L.Lookup.value_at c.args.seen.now in
    room_end _ l.left _ _ l.invariant
    (ap (λ ys. spelled_values seen (map g.P.HasPlace.place_of ys)) (drop_all l.place-index c.args.places.now c.loop-place-test.false))
