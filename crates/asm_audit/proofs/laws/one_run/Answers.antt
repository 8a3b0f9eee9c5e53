use Rattle.asm_audit.proofs.Chains as run
use Rattle.asm_audit.proofs.laws.one_run.Goals as goal

pub returns : goal.returns
returns c = run.one_run
