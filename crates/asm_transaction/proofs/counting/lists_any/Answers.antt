use Rattle.asm_transaction.proofs.Counts.{lists_none, lists_some}
use Rattle.asm_transaction.proofs.counting.lists_any.Goals as goal

pub returns-clause-some : goal.returns-clause-some
returns-clause-some c = lists_some c.args.found.now c.is_empty.result c.proper.ensures c.is_empty.ensures

pub returns-clause-none : goal.returns-clause-none
returns-clause-none c = lists_none c.args.found.now c.is_empty.result c.is_empty.ensures
