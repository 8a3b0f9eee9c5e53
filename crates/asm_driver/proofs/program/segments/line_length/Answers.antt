use Rattle.asm_driver.proofs.Segmenting.{first_line, no_line}
use Rattle.asm_driver.proofs.program.segments.line_length.Goals as goal

pub returns-in-Some-clause-line : goal.returns-in-Some-clause-line
returns-in-Some-clause-line c =
    first_line c.args.bytes.now c.in-Some.end (rw c.in-Some.is at c.line_feed_in.ensures.some)

pub returns-in-None-clause-line : goal.returns-in-None-clause-line
returns-in-None-clause-line c = no_line c.args.bytes.now (rw c.in-None.is at c.line_feed_in.ensures.none)
