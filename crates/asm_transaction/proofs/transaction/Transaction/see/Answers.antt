use Rattle.std.proofs.result.Match.{if_ok_then}
use Rattle.asm_transaction.proofs.transaction.Transaction.see.Goals as goal

pub returns-clause-value : goal.returns-clause-value
returns-clause-value g c =
    if_ok_then c.see_on.result _ _ (λ v is own. is c.args.agent.now c.state.ensures.following own) c.see_on.ensures.value
