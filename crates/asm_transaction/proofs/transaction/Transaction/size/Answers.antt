use Rattle.std.proofs.result.Match.{if_ok_then}
use Rattle.asm_transaction.proofs.transaction.Transaction.size.Goals as goal

pub returns-clause-size : goal.returns-clause-size
returns-clause-size g c =
    if_ok_then c.size_on.result _ _ (λ n is own. is c.args.agent.now c.state.ensures.following own) c.size_on.ensures.size
