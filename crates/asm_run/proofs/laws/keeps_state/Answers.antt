use Rattle.asm_run.proofs.Next as next
use Rattle.asm_run.proofs.laws.keeps_state.Goals as goal

pub returns : goal.returns
returns c = next.keeps_state
