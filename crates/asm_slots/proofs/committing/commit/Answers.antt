use Rattle.std.proofs.Common.{◌≡◌, Ok, Some, rules, subst, sym}
use Rattle.std.proofs.lemmas.Result.{err_from_is_err_and}
use Rattle.asm_storage.specs.Storage.{AgentAt}
use Rattle.asm_slots.specs.Commit.{CommitsIn, HasCommitted, HasFiredOnce}
use Rattle.asm_slots.specs.Slots.{content_of}
use Rattle.asm_slots.specs.Standard.{Standard}
use Rattle.asm_slots.specs.declared.content.Content.TheVariants as content
use Rattle.asm_slots.proofs.Commits.{commits_in}
use Rattle.asm_slots.proofs.committing.commit.Goals as goal

pub returns-in_err-commit_of-clause-commits : goal.returns-in_err-commit_of-clause-commits
returns-in_err-commit_of-clause-commits c =
    let p = err_from_is_err_and c.from_residual.result c.from_residual.ensures.1 in
    let done = c.commit_of in
    let agent : content_of c.args.agent.now ≡ Some (content.Agent c.in-Agent.inner) = search rules in
    let step : content_of c.args.step.now ≡ Some (content.Step c.in-Step.over) = search rules in
    rw (p.1, p.2) (commits_in HasCommitted (content_of c.args.agent.now) (content_of c.args.step.now) c.in-Agent.inner done.new.agent c.in-Step.over
    done.new.numbers _ agent step c.in_err-commit_of.ensures.committed)

pub returns-in_err-commit_of-clause-once : goal.returns-in_err-commit_of-clause-once
returns-in_err-commit_of-clause-once c =
    let p = err_from_is_err_and c.from_residual.result c.from_residual.ensures.1 in
    let done = c.commit_of in
    let agent : content_of c.args.agent.now ≡ Some (content.Agent c.in-Agent.inner) = search rules in
    let step : content_of c.args.step.now ≡ Some (content.Step c.in-Step.over) = search rules in
    rw (p.1, p.2) (commits_in HasFiredOnce (content_of c.args.agent.now) (content_of c.args.step.now) c.in-Agent.inner done.new.agent c.in-Step.over
    done.new.numbers _ agent step c.in_err-commit_of.ensures.once)

pub returns-clause-once : goal.returns-clause-once
returns-clause-once c =
    let done = c.commit_of in
    let agent : content_of c.args.agent.now ≡ Some (content.Agent c.in-Agent.inner) = search rules in
    let step : content_of c.args.step.now ≡ Some (content.Step c.in-Step.over) = search rules in
    subst (λ (a : AgentAt Standard). CommitsIn HasFiredOnce (content_of c.args.agent.now) (Some (content.Agent a)) (content_of c.args.step.now)
    done.new.numbers (Ok tt)) (sym c.keep_memory.ensures)
    (commits_in HasFiredOnce (content_of c.args.agent.now) (content_of c.args.step.now) c.in-Agent.inner done.new.agent c.in-Step.over
    done.new.numbers _ agent step c.in_ok-commit_of.ensures.once)
