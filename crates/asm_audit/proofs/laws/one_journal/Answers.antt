use Rattle.asm_audit.proofs.OneJournal.{one_legal, one_illegal, first_fault}
use Rattle.asm_audit.proofs.laws.one_journal.Goals as goal

pub returns-clause-legal : goal.returns-clause-legal
returns-clause-legal c = one_legal

pub returns-clause-illegal : goal.returns-clause-illegal
returns-clause-illegal c = one_illegal

pub returns-clause-fault : goal.returns-clause-fault
returns-clause-fault c = first_fault
