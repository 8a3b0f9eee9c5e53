use Rattle.std.proofs.Common.{ap, sym, ◌∙◌, ◌∷◌, ◌+◌, map}
use Rattle.std.specs.Prelude.{drop}
use Rattle.std.proofs.lemmas.List.{drop_more, drop_all}
use Rattle.asm_storage.proofs.Accounts.{ord_max_is}
use Rattle.asm_journal.specs.Element.{location_json_of}
use Rattle.asm_slots.specs.LongLines.{longest, spelled}
use Rattle.asm_slots.proofs.LineRooms.{max_end, max_step}
use Rattle.asm_slots.proofs.long_lines.longest_place.Goals as goal

pub loop-item-preserved : goal.loop-item-preserved
loop-item-preserved g c =
    let l = c.loop-item in
    let xs = c.args.items.now in
    let x = c.item-item.result in
    let step = drop_more xs l.item-index x c.loop-item-test.true ∙ ap (λ y. y ∷ drop (l.item-index + 1) xs) (sym c.item-item.is) in
    max_step _ l.most _ (spelled (location_json_of (g.P.HasPlace.place_of x))) _ _ _ l.invariant (ap (λ ys. longest (map (λ y. location_json_of (g.P.HasPlace.place_of y)) ys)) step)
    (c.in_ok-length_of.ensures ∙ ap (λ p. spelled (location_json_of p)) c.place.ensures) (c.max-most.ensures ∙ ord_max_is _ _)

pub returns : goal.returns
returns g c =
    let l = c.loop-item in
    max_end _ l.most _ l.invariant (ap (λ ys. longest (map (λ y. location_json_of (g.P.HasPlace.place_of y)) ys)) (drop_all l.item-index c.args.items.now c.loop-item-test.false))
