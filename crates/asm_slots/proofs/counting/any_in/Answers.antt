use Rattle.std.proofs.Common.{ℕ, List, subst}
use Rattle.asm_slots.specs.Counting.{IsAnyBy}
use Rattle.asm_slots.proofs.counting.any_in.Goals as goal

pub returns-clause-any : goal.returns-clause-any
returns-clause-any c =
    subst (λ (name : List ℕ). IsAnyBy name c.args.agent.now c.args.step.now c.number_of.result) c.in-Ok.ensures.cases.0
    (c.in_ok-any.ensures.reached, (c.in_ok-any.any, c.number_of.ensures, c.in_ok-any.ensures.any))
