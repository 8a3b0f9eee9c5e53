use Rattle.asm_journal.proofs.Compact.{quoted_front}
use Rattle.asm_journal.proofs.front.scalars.quoted_text.Goals as goal

pub returns-in-Ok : goal.returns-in-Ok
returns-in-Ok c =
    quoted_front c.args.text.now c.in_ok-inside.inside.now c.in_ok-front.front.now c.in_ok-front.rest.now
    c.in-Ok.front.now c.in_ok-inside.ensures c.in_ok-front.ensures.text c.in_ok-front.ensures.plain c.in-Ok.ensures.cases.0
