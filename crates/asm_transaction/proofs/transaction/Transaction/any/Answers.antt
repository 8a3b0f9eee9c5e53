use Rattle.std.proofs.result.Match.{if_ok_then}
use Rattle.asm_transaction.proofs.transaction.Transaction.any.Goals as goal

pub returns-clause-any : goal.returns-clause-any
returns-clause-any g c =
    if_ok_then c.any_on.result _ _ (λ n is own. is c.args.agent.now c.state.ensures.following own) c.any_on.ensures.any
