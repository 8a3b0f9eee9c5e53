use Rattle.asm_transaction.proofs.transaction.Transaction.push.Goals as goal

pub returns-clause-pushed : goal.returns-clause-pushed
returns-clause-pushed g c own =
    c.push_on.ensures.pushed c.args.agent.now
    (record { same = c.requires; own = c.state.ensures.following; number = c.state.ensures.number }) own

pub returns-clause-refused : goal.returns-clause-refused
returns-clause-refused g c =
    c.push_on.ensures.refused c.args.agent.now
    (record { same = c.requires; own = c.state.ensures.following; number = c.state.ensures.number })
