use Rattle.std.proofs.Common.{◌∙◌, subst, Err}
use Rattle.asm_update.specs.Aggregator.{IsOutcome}
use Rattle.asm_update.specs.State.{val}
use Rattle.asm_update.specs.declared.error.ResultError.{ResultError}
use Rattle.asm_journal.proofs.Moves.{after_change, after_cause}
use Rattle.asm_journal.proofs.replaying.change_or_keep.Goals as goal

pub returns-in-Ok : goal.returns-in-Ok
returns-in-Ok g c = λ M one.
    after_change (g.A.Aggregator.meaning c.args.aggregator.now).part c.args.state.now c.change.new.self M c.args.at.now c.args.group.now one c.in-Ok.ensures.ok

pub returns-in-Err-Cause : goal.returns-in-Err-Cause
returns-in-Err-Cause g c = λ M one.
    let part = (g.A.Aggregator.meaning c.args.aggregator.now).part in
    c.in-Err-Cause.ensures.err
    ∙ after_cause part c.args.state.now M c.args.at.now c.args.group.now c.in-Err-Cause.field-0-0 one
    (subst (λ (e : ResultError). IsOutcome (Err e) (part (val c.args.state.now c.args.at.now) c.args.group.now.regular c.args.group.now.partials)) c.in-Err-Cause.field-0-is c.in-Err-Cause.ensures.cause)
