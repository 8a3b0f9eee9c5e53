use Rattle.asm_transaction.proofs.transaction.Transaction.get_on.Goals as goal

pub returns-clause-value : goal.returns-clause-value
returns-clause-value g c a own is = c.in_ok-value.ensures.value a own is
