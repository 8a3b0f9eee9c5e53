use Rattle.std.proofs.result.Match.{if_ok_then}
use Rattle.asm_transaction.proofs.transaction.Transaction.scan.Goals as goal

pub returns-clause-found : goal.returns-clause-found
returns-clause-found g c =
    if_ok_then c.scan_on.result _ _ (λ v is own. is c.args.agent.now c.state.ensures.following own) c.scan_on.ensures.found
