use Rattle.std.proofs.result.Match.{if_ok_then}
use Rattle.asm_transaction.proofs.transaction.Transaction.count.Goals as goal

pub returns-clause-count : goal.returns-clause-count
returns-clause-count g c =
    if_ok_then c.count_on.result _ _ (λ n is own. is c.args.agent.now c.state.ensures.following own) c.count_on.ensures.count
