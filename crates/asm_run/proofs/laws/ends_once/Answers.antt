use Rattle.asm_run.proofs.Betweens as betweens
use Rattle.asm_run.proofs.laws.ends_once.Goals as goal

pub returns : goal.returns
returns c = betweens.ends_once
