use Rattle.std.proofs.Common.{◌≤◌, ◌∙◌, ◌∷◌, ◌+◌, ap, subst, sym}
use Rattle.std.specs.Prelude.{All, drop}
use Rattle.std.proofs.lemmas.List.{drop_more, drop_all}
use Rattle.std.proofs.lemmas.List.Elements.{All-cons, All-nil}
use Rattle.asm_slots.specs.LongLines.{spelled}
use Rattle.asm_slots.proofs.short_lines.are_short.Goals as goal

pub loop-item-preserved : goal.loop-item-preserved
loop-item-preserved g c =
    let l = c.loop-item in
    let xs = c.args.items.now in
    let x = c.item-item.result in
    let short = λ (x : g.row.T.Denot). spelled (g.T.ToJson.json_of x) ≤ g.T.Short.most in
    let step = drop_more xs l.item-index x c.loop-item-test.true ∙ ap (λ y. y ∷ drop (l.item-index + 1) xs) (sym c.item-item.is) in
    λ rest. l.invariant (subst (All short) (sym step) (All-cons short x (drop (l.item-index + 1) xs) (c.is_short.ensures c.if-not-is_short.false) rest))

pub returns : goal.returns
returns g c = λ short.
    let l = c.loop-item in
    let is = λ (x : g.row.T.Denot). spelled (g.T.ToJson.json_of x) ≤ g.T.Short.most in
    l.invariant (subst (All is) (sym (drop_all l.item-index c.args.items.now c.loop-item-test.false)) (All-nil is))

pub loop-item-init : goal.loop-item-init
loop-item-init g c = λ all. all
