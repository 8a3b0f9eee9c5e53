use Rattle.std.proofs.Common.{◌≡◌, Some, rules}
use Rattle.std.proofs.lemmas.Result.{err_from_is_err_and}
use Rattle.asm_slots.specs.Slots.{content_of}
use Rattle.asm_slots.specs.declared.content.Content.TheVariants as content
use Rattle.asm_slots.proofs.OwnStates.{own_bytes}
use Rattle.asm_slots.proofs.own_state.peek_at.Goals as goal

pub returns-in_err-value-clause-answers : goal.returns-in_err-value-clause-answers
returns-in_err-value-clause-answers c =
    let p = err_from_is_err_and c.from_residual.result c.from_residual.ensures.1 in
    let at : content_of c.args.at.now ≡ Some (content.Location c.in-Location.at) = search rules in
    let agent : content_of c.args.agent.now ≡ Some (content.Agent c.in-Agent.inner) = search rules in
    let tried = c.write_value_at in
    rw (p.1, p.2) (own_bytes (content_of c.args.at.now) (content_of c.args.agent.now) c.in-Location.at c.in-Agent.inner
    c.state-state.result.now c.args.out.now tried.new.out tried.new.written c.in_err-value.field-0.0 at agent
    c.state-state.ensures.following c.state-state.ensures.number c.in_err-value.ensures.err)
