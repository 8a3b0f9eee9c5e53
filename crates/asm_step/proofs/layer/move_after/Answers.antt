use Rattle.std.proofs.Common.{Option, Bor, subst, sym}
use Rattle.std.specs.Option.{option_copied}
use Rattle.asm_update.specs.Move.{Move}
use Rattle.asm_step.specs.Next.{IsComposed}
use Rattle.asm_step.proofs.layer.move_after.Goals as goal

pub returns-in_default : goal.returns-in_default
returns-in_default g c =
    let a = g.A.Aggregator.meaning c.args.aggregator.now in
    subst (λ (o : Option (Bor Move)). IsComposed a (option_copied o) c.args.next.now c.first_move.result)
    (sym c.in_default.is) (c.first_move.ensures a)
