use Rattle.asm_journal.proofs.FaultFound.{reads_fit}
use Rattle.asm_journal.proofs.RoundTrip.{text_reads}
use Rattle.asm_journal.proofs.laws.rewritten_reads_back.Goals as goal

pub returns : goal.returns
returns c = λ text h proper reads. text_reads h proper (reads_fit text h proper reads)
