use Rattle.std.proofs.Common.{◌∙◌, sym}
use Rattle.std.proofs.lemmas.Result.{IfOk-weaker}
use Rattle.asm_aggregate.specs.Standard.{standard_meaning}
use Rattle.asm_slots.proofs.standing.overwritten.Goals as goal

pub returns-clause-stands : goal.returns-clause-stands
unfolding standard_meaning
returns-clause-stands c =
    let polled = c.in_ok-follow.ensures in
    IfOk-weaker c.overwritten_on.result _ _ (λ found stands own.
    stands c.args.agent.now c.follow.new.self own c.state.ensures.following (c.state.ensures.number ∙ sym polled.stands ∙ polled.number))
    c.overwritten_on.ensures
