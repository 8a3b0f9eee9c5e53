use Rattle.asm_transaction.proofs.transaction.Transaction.any_on.Goals as goal

pub returns-clause-any : goal.returns-clause-any
returns-clause-any g c a own is = c.in_ok-any.ensures.any a own is
