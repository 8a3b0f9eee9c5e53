use Rattle.asm_transaction.proofs.transaction.Transaction.count_on.Goals as goal

pub returns-clause-count : goal.returns-clause-count
returns-clause-count g c a own is = c.in_ok-count.ensures.count a own is
