use Rattle.asm_audit.proofs.OneVerdict as once
use Rattle.asm_audit.proofs.laws.one_verdict.Goals as goal

pub returns : goal.returns
returns c = once.one_verdict
