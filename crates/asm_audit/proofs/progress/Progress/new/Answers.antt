use Rattle.asm_audit.proofs.Steps.{audited_nothing}
use Rattle.asm_audit.proofs.progress.Progress.new.Goals as goal

pub returns : goal.returns
returns c = audited_nothing
