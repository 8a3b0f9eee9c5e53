use Rattle.std.proofs.Common.{arith}
use Rattle.asm_driver.proofs.BytesTaken.{some_pending}
use Rattle.asm_driver.proofs.ports.line_reader.LineReader.top_up.Goals as goal

pub returns-clause-topped : goal.returns-clause-topped
returns-clause-topped g c =
    some_pending (g.S.Source.remaining c.args.input.now) (g.S.Source.failed c.args.input.now) c.args.self.now.chunk.items
    c.args.self.now.taken c.args.self.now.within (λ e. c.if-self-len.false (omega (arith, e, c.len.ensures))) c.requires.unread
