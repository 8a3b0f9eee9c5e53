use Rattle.std.proofs.Common.{◌≡◌, Some, refl, rules}
use Rattle.asm_slots.specs.Slots.{content_of}
use Rattle.asm_slots.specs.declared.content.Content.TheVariants as content
use Rattle.asm_slots.proofs.Growing.{grown_of}
use Rattle.asm_slots.proofs.pushing.grow_of.Goals as goal

pub returns-clause-answers : goal.returns-clause-answers
returns-clause-answers c =
    let agent : content_of c.args.agent.now ≡ Some (content.Agent c.in-Agent.agent) = search rules in
    let step : content_of c.args.step.now ≡ Some (content.Step c.in-Step.step) = search rules in
    let grown = c.grow_by.ensures in
    grown_of c.args.way c.args.instrs.now c.in_ok-instrs.instrs (content_of c.args.agent.now) (content_of c.args.step.now)
    (Some (content.Step c.grow_by.new.step)) c.in-Agent.agent c.in-Step.step c.grow_by.new.step c.args.out.now c.grow_by.new.out
    c.grow_by.new.written c.grow_by.result agent step refl c.in_ok-instrs.ensures.ok grown.grown grown.unwritten grown.err
