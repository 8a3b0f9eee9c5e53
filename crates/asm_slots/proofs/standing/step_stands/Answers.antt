use Rattle.std.proofs.Common.{◌≡◌, None, Some, refl, rules, subst}
use Rattle.asm_transaction.specs.Reading.{IsOf}
use Rattle.asm_transaction.specs.Standing.{Stands}
use Rattle.asm_slots.specs.Slots.{content_of}
use Rattle.asm_slots.specs.Standard.{meaning}
use Rattle.asm_slots.specs.Standing.{FindsOf, OnlyPolls}
use Rattle.asm_slots.specs.declared.content.Content.TheVariants as content
use Rattle.asm_slots.proofs.StandingSteps.{of_step, stale_step}
use Rattle.asm_slots.proofs.standing.step_stands.Goals as goal

pub returns-in-Some-found-clause-answers : goal.returns-in-Some-found-clause-answers
returns-in-Some-found-clause-answers c =
    let a = c.in-Agent.inner in
    let b = c.overwritten.new.agent in
    let t = c.in-Step.over in
    let agent : content_of c.args.agent.now ≡ Some (content.Agent a) = search rules in
    let step : content_of c.args.step.now ≡ Some (content.Step t) = search rules in
    let its = c.in_ok-found.ensures in
    let polls : OnlyPolls a b = (its.polled, its.same, its.seen) in
    let stands = subst (λ o. IsOf meaning a t → Stands meaning b t o) c.in-Some-found.is its.stands in
    stale_step (content_of c.args.agent.now) _ (content_of c.args.step.now) c.in-Some-found.at c.args.out.now _ _ _
    (of_step (FindsOf (Some c.in-Some-found.at)) _ _ a b t agent step (polls, its.level, stands))
    (of_step (λ x y z. OnlyPolls x y) _ _ a b t agent step polls) c.report_stale.ensures

pub returns-in-None-clause-answers : goal.returns-in-None-clause-answers
returns-in-None-clause-answers c =
    let a = c.in-Agent.inner in
    let b = c.overwritten.new.agent in
    let t = c.in-Step.over in
    let agent : content_of c.args.agent.now ≡ Some (content.Agent a) = search rules in
    let step : content_of c.args.step.now ≡ Some (content.Step t) = search rules in
    let its = c.in_ok-found.ensures in
    let polls : OnlyPolls a b = (its.polled, its.same, its.seen) in
    let stands = subst (λ o. IsOf meaning a t → Stands meaning b t o) c.in-None.is its.stands in
    (of_step (FindsOf None) _ _ a b t agent step (polls, its.level, stands), (refl, refl))
