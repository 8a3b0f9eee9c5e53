use Rattle.asm_trace.proofs.Making.{without_reports, recounts_tell}
use Rattle.asm_trace.proofs.laws.changes_list_differences.Goals as goal

pub returns-clause-sets : goal.returns-clause-sets
returns-clause-sets c = without_reports

pub returns-clause-bags : goal.returns-clause-bags
returns-clause-bags c = recounts_tell
