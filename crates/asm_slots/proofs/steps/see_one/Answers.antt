use Rattle.std.proofs.Common.{subst, sym}
use Rattle.asm_aggregate.specs.Standard.{standard_meaning}
use Rattle.asm_element.specs.declared.value.Value.{Value}
use Rattle.asm_transaction.specs.Reading.{IsShown}
use Rattle.asm_slots.specs.Standard.{meaning}
use Rattle.asm_slots.proofs.steps.see_one.Goals as goal

pub returns-clause-value : goal.returns-clause-value
unfolding standard_meaning
returns-clause-value c own =
    subst (λ (v : Value). IsShown meaning c.args.agent.now c.args.step.now c.args.at.now v) (sym c.in_ok-value_at.ensures)
    (c.in_ok-seen.ensures.shown c.args.agent.now c.state.ensures.following own c.args.at.now)
