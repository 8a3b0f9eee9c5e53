use Rattle.std.proofs.Common.{sym}
use Rattle.asm_transaction.proofs.standing.is_written.Goals as goal

pub returns : goal.returns
returns c = λ part init q follows.
    let last = c.written_at.ensures.last part init q follows in sym (last.tested c.args.number)
