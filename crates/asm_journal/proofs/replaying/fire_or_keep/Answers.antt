use Rattle.std.proofs.Common.{subst, IfSome}
use Rattle.std.proofs.lemmas.Result.{on_ok_weaker}
use Rattle.asm_state.specs.Change.{IsOneChange}
use Rattle.asm_journal.proofs.replaying.fire_or_keep.Goals as goal

pub returns-in-Some : goal.returns-in-Some
returns-in-Some g c =
    let M = c.args.instructions.now in
    let one = subst (λ o. IfSome o (λ p. IsOneChange M p.0.now p.1)) c.in-Some.is c.in_ok-at.ensures.some in
    on_ok_weaker c.change_or_keep.result (λ left. left M one) c.change_or_keep.ensures
