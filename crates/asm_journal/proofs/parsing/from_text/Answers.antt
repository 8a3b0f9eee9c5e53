use Rattle.asm_journal.proofs.Refused.{answered}
use Rattle.asm_journal.proofs.FaultFound.{fitting}
use Rattle.asm_journal.proofs.parsing.from_text.Goals as goal

pub returns-clause-only : goal.returns-clause-only
returns-clause-only c = λ h reads.
    answered c.args.bytes.now c.read_journal.result c.read_journal.ensures.ok c.read_journal.ensures.err h reads

pub returns-clause-fits : goal.returns-clause-fits
returns-clause-fits c =
    fitting c.args.bytes.now c.read_journal.result c.read_journal.ensures.ok c.read_journal.ensures.proper
