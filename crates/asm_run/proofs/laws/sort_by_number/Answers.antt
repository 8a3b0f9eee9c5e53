use Rattle.asm_run.proofs.Sorting as sorting
use Rattle.asm_run.proofs.laws.sort_by_number.Goals as goal

pub returns : goal.returns
returns c = sorting.sort_by_number
