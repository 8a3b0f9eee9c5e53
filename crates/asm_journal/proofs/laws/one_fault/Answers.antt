use Rattle.asm_journal.proofs.Refused.{one_fault}
use Rattle.asm_journal.proofs.FaultFound.{some_fault}
use Rattle.asm_journal.proofs.laws.one_fault.Goals as goal

pub returns-clause-one : goal.returns-clause-one
returns-clause-one c = one_fault

pub returns-clause-some : goal.returns-clause-some
returns-clause-some c = λ text none faultless. some_fault text none faultless
