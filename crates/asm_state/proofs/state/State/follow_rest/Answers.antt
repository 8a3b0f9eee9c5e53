use Rattle.std.proofs.Common.{subst, IfSome}
use Rattle.std.proofs.lemmas.Result.{on_ok_weaker}
use Rattle.asm_state.specs.Change.{IsOneChange}
use Rattle.asm_state.proofs.state.State.follow_rest.Goals as goal

pub returns-in-Some-clause-followed : goal.returns-in-Some-clause-followed
returns-in-Some-clause-followed g c =
    let M = c.args.instructions.now in
    let one = subst (λ o. IfSome o (λ p. IsOneChange M p.0.now p.1)) c.in-Some.is c.in_ok-at.ensures.some in
    on_ok_weaker c.follow_at.result (λ followed. followed M one) c.follow_at.ensures.followed
