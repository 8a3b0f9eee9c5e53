use Rattle.asm_aggregate.proofs.Exits.{admitted_none}
use Rattle.asm_aggregate.proofs.composition.cause_of.Goals as goal

pub returns-in-Ok : goal.returns-in-Ok
returns-in-Ok c = λ o admitted. admitted_none _ _ o c.in-Ok.is admitted
