use Rattle.asm_trace.proofs.Noted.{legal_trace, first_wrong_reported}
use Rattle.asm_trace.proofs.laws.wrong_answers.Goals as goal

pub returns-clause-legal : goal.returns-clause-legal
returns-clause-legal c = legal_trace

pub returns-clause-first : goal.returns-clause-first
returns-clause-first c = first_wrong_reported
