use Rattle.std.proofs.Common.{◌≡◌, None, Some, rules}
use Rattle.std.proofs.lemmas.Result.{err_from_is_err_and}
use Rattle.asm_slots.specs.AgentCalls.{IsNoCapacity}
use Rattle.asm_slots.specs.NextStore.{IsAtEnd}
use Rattle.asm_slots.specs.Slots.{content_of}
use Rattle.asm_slots.specs.declared.content.Content.TheVariants as content
use Rattle.asm_slots.proofs.ShortLines.{goes_not_on}
use Rattle.asm_slots.proofs.opening.go_on.Goals as goal

pub returns-in_err-expect_state-clause-answers : goal.returns-in_err-expect_state-clause-answers
returns-in_err-expect_state-clause-answers c =
    let p = err_from_is_err_and c.from_residual-in_err-expect_state.result c.from_residual-in_err-expect_state.ensures.1 in
    let empty : content_of c.args.next.now ≡ None = search rules in
    let agent : content_of c.args.agent.now ≡ Some (content.Agent c.in-Agent.inner) = search rules in
    let room : ¬ IsNoCapacity c.args.capacity = search rules in
    let at_end : IsAtEnd c.in-Agent.inner = search rules in
    rw (p.1, p.2) (goes_not_on c.args.capacity (content_of c.args.agent.now) (content_of c.args.next.now) c.in-Agent.inner c.state-state.result.now
    c.in_ok-left.left c.in_err-expect_state.field-0.0 empty agent room c.state-state.ensures.following c.state-state.ensures.number at_end
    c.proper.ensures c.in_ok-left.ensures c.in_err-expect_state.ensures)
