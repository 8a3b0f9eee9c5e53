use Rattle.std.proofs.Common.{◌≡◌, ◌+◌, ◌∷◌, ◌∙◌, [], ap, arith, drop, length, length-append, sym, subst}
use Rattle.std.proofs.lemmas.List.{drop_more}
use Rattle.asm_update.specs.Move.{Move}
use Rattle.asm_script.proofs.BlockMoves.{IsMoved, one_done}
use Rattle.asm_script.proofs.block.evaluated.Goals as goal

pub loop-written-preserved : goal.loop-written-preserved
loop-written-preserved g c =
    let old = g.L.Lookup.value_at c.args.lookup.now in
    let block = c.args.instructions.now in
    let n = c.loop-written.written-index in
    let done = c.loop-written.done.items in
    let item = c.written-item.result in
    let made = c.in-Ok.instruction in
    let left = drop_more block n item c.loop-written-test.true ∙ ap (λ y. y ∷ drop (n + 1) block) (sym c.written-item.is) in
    let moved = subst (IsMoved old block n done) left c.loop-written.invariant.0 in
    let pushed = c.in_ok-push-in-Ok.ensures.items in (
      subst (λ (M : Move). IsMoved old block (n + 1) M (drop (n + 1) block)) (sym pushed)
          (one_done old block (drop (n + 1) block) n done item moved made c.in-Ok.ensures),
      omega (arith, ap length pushed, c.loop-written.invariant.1, length-append done (made ∷ [])),
    )
