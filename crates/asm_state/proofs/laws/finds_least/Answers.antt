use Rattle.asm_state.proofs.LeastFound as found
use Rattle.asm_state.proofs.laws.finds_least.Goals as goal

pub returns : goal.returns
returns c = found.finds_least
