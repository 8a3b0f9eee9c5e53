use Rattle.std.proofs.Common.{◌<◌, All, drop, arith}
use Rattle.asm_slots.proofs.Ascending.{above_at, above_end, among_at}
use Rattle.asm_slots.proofs.giving.insert_point.Goals as goal
use Rattle.asm_slots.proofs.giving.insert_point.Goals.{else-at-parts-via-then-at-parts+else-id, else-at-parts-via-else-at-parts}

pub returns-then-id-clause-none : goal.returns-then-id-clause-none
returns-then-id-clause-none c =
    among_at c.args.parts.now c.below-at.result c.args.id c.index-parts-at.result (omega (arith, c.if-at-parts.true)) c.index-parts-at.is (omega (arith, c.id.ensures, c.if-id.true))

pub returns-clause-some : goal.returns-clause-some
returns-clause-some c =
    let parts = c.args.parts.now in
    let at = c.below-at.result in
    let after : All (λ p. c.args.id < p.id) (drop at parts) =
    elim c.else-at-parts.branch [
      | else-at-parts-via-then-at-parts+else-id w ↦ above_at parts at c.args.id w.index-parts-at.result c.requires (omega (arith, w.if-at-parts.true)) w.index-parts-at.is c.below-at.ensures.next (λ e. omega (arith, e, w.id.ensures, w.if-id.false))
      | else-at-parts-via-else-at-parts w ↦ above_end parts at c.args.id (omega (arith, w.if-at-parts.false))
    ] in
    record { within = c.below-at.ensures.within; before = c.below-at.ensures.before; after = after }
