use Rattle.std.proofs.Common.{◌∙◌, ap}
use Rattle.asm_element.specs.declared.value.Value.{Value}
use Rattle.asm_transaction.specs.Members.{size_of}
use Rattle.asm_transaction.proofs.transaction.Transaction.see_size.Goals as goal

pub returns-clause-size : goal.returns-clause-size
returns-clause-size g c a own is = (
  _,
  c.in_ok-seen.ensures.shown a own is c.args.at.now,
  c.size_of.ensures ∙ ap (λ (v : Value). size_of v) c.get.ensures.value,
)
