use Rattle.std.proofs.Common.{◌∙◌, ap}
use Rattle.asm_element.specs.declared.value.Value.{Value}
use Rattle.asm_transaction.specs.Members.{count_in}
use Rattle.asm_transaction.proofs.transaction.Transaction.see_count.Goals as goal

pub returns-clause-count : goal.returns-clause-count
returns-clause-count g c a own is = (
  _,
  c.in_ok-seen.ensures.shown a own is c.args.at.now,
  c.count_in.ensures ∙ ap (λ (v : Value). count_in v c.args.element.now) c.get.ensures.value,
)
