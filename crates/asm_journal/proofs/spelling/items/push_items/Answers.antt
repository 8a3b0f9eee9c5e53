use Rattle.std.proofs.Common.{ap, sym, ◌∙◌, ◌∷◌, ◌+◌}
use Rattle.std.specs.Prelude.{drop}
use Rattle.std.proofs.lemmas.List.{drop_more, drop_all}
use Rattle.asm_journal.proofs.Spelt.{spelt_more, spelt_all}
use Rattle.asm_journal.proofs.spelling.items.push_items.Goals as goal

pub loop-item-preserved : goal.loop-item-preserved
loop-item-preserved g c =
    let l = c.loop-item in
    let xs = c.args.items.now in
    let x = c.item-item.result in
    let step = drop_more xs l.item-index x c.loop-item-test.true ∙ ap (λ y. y ∷ drop (l.item-index + 1) xs) (sym c.item-item.is) in
    spelt_more g.T.ToJson.json_of _ _ _ l.later x _ _ l.invariant step c.in_ok-push_next.ensures

pub returns : goal.returns
returns g c =
    let l = c.loop-item in
    spelt_all g.T.ToJson.json_of _ _ _ l.later _ l.invariant (drop_all l.item-index c.args.items.now c.loop-item-test.false)
    c.in_ok-push_sign.ensures
