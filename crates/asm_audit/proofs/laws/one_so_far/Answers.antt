use Rattle.asm_audit.proofs.OneSoFar.{one_count, one_state}
use Rattle.asm_audit.proofs.laws.one_so_far.Goals as goal

pub returns-clause-counts : goal.returns-clause-counts
returns-clause-counts c = one_count

pub returns-clause-state : goal.returns-clause-state
returns-clause-state c = one_state
