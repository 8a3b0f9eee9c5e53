use Rattle.std.proofs.Common.{◌⊎◌, ℕ, List, inr, subst}
use Rattle.asm_slots.specs.Answers.{IsNoName}
use Rattle.asm_slots.specs.StepCalls.{IsFoundBy, IsNotScanned}
use Rattle.asm_slots.specs.WrittenText.{IsWritten}
use Rattle.asm_slots.proofs.WrittenTexts.{written_too}
use Rattle.asm_slots.proofs.getting_all.scan_in.Goals as goal

pub returns-clause-text : goal.returns-clause-text
returns-clause-text c =
    let agent = c.args.agent.now in
    let step = c.args.step.now in
    let found = c.scan_of_name in
    subst (λ (name : List ℕ). IsWritten (IsFoundBy name agent step) (λ k. IsNoName c.args.name.now k ⊎ IsNotScanned name agent step k)
    c.args.out.now found.new.out found.new.written found.result) c.in-Ok.ensures.cases.0
    (written_too (IsFoundBy c.in-Ok.name.now agent step) (IsNotScanned c.in-Ok.name.now agent step)
    (λ k. IsNoName c.args.name.now k ⊎ IsNotScanned c.in-Ok.name.now agent step k) c.args.out.now found.new.out found.new.written
    found.result (λ k none. inr none) found.ensures.text)
