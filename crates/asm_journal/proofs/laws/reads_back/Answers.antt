use Rattle.asm_journal.specs.Text.{text_of}
use Rattle.asm_journal.proofs.laws.reads_back.Goals as goal

pub returns-clause-only : goal.returns-clause-only
returns-clause-only c = λ h reads.
    let history = c.args.history.now in
    let back = c.text_reads_back.ensures history c.proper.ensures c.requires in
    c.one_reading.ensures (text_of history) h history reads back
