use Rattle.std.proofs.Common.{ℕ, List, subst}
use Rattle.asm_slots.specs.Counting.{IsCountBy}
use Rattle.asm_slots.proofs.counting.count_in.Goals as goal

pub returns-clause-count : goal.returns-clause-count
returns-clause-count c =
    subst (λ (name : List ℕ). IsCountBy name c.args.agent.now c.args.step.now c.in_ok-count.count) c.in-Ok.ensures.cases.0
    (c.in_ok-count.ensures.reached, c.in_ok-count.ensures.count)
