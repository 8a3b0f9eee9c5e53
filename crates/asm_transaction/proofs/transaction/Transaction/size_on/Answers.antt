use Rattle.asm_transaction.proofs.transaction.Transaction.size_on.Goals as goal

pub returns-clause-size : goal.returns-clause-size
returns-clause-size g c a own is = c.in_ok-size.ensures.size a own is
