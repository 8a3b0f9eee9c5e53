use Rattle.asm_trace.proofs.Noted as once
use Rattle.asm_trace.proofs.laws.one_trace.Goals as goal

pub returns : goal.returns
returns c = once.one_trace
