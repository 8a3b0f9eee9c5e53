use Rattle.std.proofs.Common.{◌≡◌, ◌⊎◌, Some, refl, rules}
use Rattle.asm_slots.specs.Answers.{IsNoName}
use Rattle.asm_slots.specs.Slots.{content_of}
use Rattle.asm_slots.specs.StepCalls.{IsFoundBy, IsNotScanned}
use Rattle.asm_transaction.specs.Scanning.{HasScanned}
use Rattle.asm_slots.specs.declared.content.Content.TheVariants as content
use Rattle.asm_slots.proofs.WrittenTexts.{shows}
use Rattle.asm_slots.proofs.getting_all.step_scan.Goals as goal

pub returns-clause-answers : goal.returns-clause-answers
returns-clause-answers c =
    let agent : content_of c.args.agent.now ≡ Some (content.Agent c.in-Agent.agent) = search rules in
    let step : content_of c.args.step.now ≡ Some (content.Step c.in-Step.step) = search rules in
    let name = c.args.name.now in
    let found = c.scan_in in
    shows (IsFoundBy name) (λ a s k. IsNoName name k ⊎ IsNotScanned name a s k) (HasScanned name) (content_of c.args.agent.now)
    (content_of c.args.step.now) (Some (content.Step found.new.step)) c.in-Agent.agent c.in-Step.step found.new.step c.args.out.now
    found.new.out found.new.written found.result agent step refl found.ensures.text found.ensures.scanned
