use Rattle.asm_trace.proofs.Unchanged as leaving
use Rattle.asm_trace.proofs.laws.changes_reach_state.Goals as goal

pub returns : goal.returns
returns c = leaving.changes_reach_state
