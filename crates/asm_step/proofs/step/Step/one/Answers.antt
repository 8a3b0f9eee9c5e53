use Rattle.std.proofs.Common.{length, ap, ◌∙◌, arith}
use Rattle.asm_step.specs.Outcomes.{Outcomes, listed}
use Rattle.asm_step.proofs.Insertions.{if_ok_weaker}
use Rattle.asm_step.proofs.OneMove.{one_alone, one_listed}
use Rattle.asm_step.proofs.step.Step.one.Goals as goal

pub returns-in-Some : goal.returns-in-Some
returns-in-Some c =
    if_ok_weaker c.copy.result (λ one is. is ∙ one_alone c.args.self.now c.in-Some.alone.now c.in-Some.ensures) c.copy.ensures

pub listing-requires : goal.listing-requires
listing-requires c =
    let same = ap (λ (os : Outcomes). length (listed os)) c.in_ok-gathered-in-None.ensures in
    omega (arith, same, c.within_limit.ensures.listed, c.within_limit.ensures.few)

pub returns-in_ok-gathered-in-None : goal.returns-in_ok-gathered-in-None
returns-in_ok-gathered-in-None c =
    if_ok_weaker c.listing.result
    (λ one is. is ∙ ap (λ (os : Outcomes). listed os) c.in_ok-gathered-in-None.ensures ∙ one_listed c.args.self.now c.in-None.ensures)
    c.listing.ensures
