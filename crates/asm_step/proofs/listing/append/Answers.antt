use Rattle.std.proofs.Common.{◌≡◌, ◌++◌, ◌+◌, ◌∷◌, [], length, take, length-append, length-take, append_assoc, ap, sym, ◌∙◌, arith}
use Rattle.std.proofs.lemmas.List.{take_more}
use Rattle.asm_aggregate.specs.Compose.{placed}
use Rattle.asm_update.specs.Move.{Move}
use Rattle.asm_step.proofs.Stacked.{placed_length, placed_more}
use Rattle.asm_step.proofs.listing.append.Goals as goal

pub push_within-requires : goal.push_within-requires
push_within-requires c =
    let i = c.loop-action.action-index in
    let actions = c.args.actions.now in
    let long = ap length c.loop-action.invariant
    ∙ length-append c.args.list.now (placed c.args.at.now (take i actions)) in
    let part = placed_length c.args.at.now (take i actions) in
    let few = length-take i actions in
    omega (arith, long, part, few, c.loop-action-test.true, c.requires)

pub loop-action-preserved : goal.loop-action-preserved
loop-action-preserved c =
    let i = c.loop-action.action-index in
    let actions = c.args.actions.now in
    let list = c.args.list.now in
    let at = c.args.at.now in
    let x = c.action-item.result in
    let more : take (i + 1) actions ≡ take i actions ++ x ∷ [] =
    take_more actions i x c.loop-action-test.true ∙ ap (λ y. take i actions ++ y ∷ []) (sym c.action-item.is) in
    c.in_ok-push_within.ensures
    ∙ (λ j. c.loop-action.invariant j ++ record { at = c.in_ok-copy.ensures j; action = c.in_ok-clone.ensures.cases j } ∷ [])
    ∙ append_assoc list (placed at (take i actions)) _
    ∙ ap (λ (M : Move). list ++ M) (sym (ap (placed at) more ∙ placed_more at (take i actions) x))
