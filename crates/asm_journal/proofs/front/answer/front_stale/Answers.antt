use Rattle.asm_journal.proofs.FrontObjects.{stale_begins}
use Rattle.asm_journal.proofs.front.answer.front_stale.Goals as goal

pub returns : goal.returns
returns c =
    stale_begins c.args.text.now c.in_ok-inside.inside.now c.in_ok-at.left.now c.in_ok-rest.rest.now c.in_ok-at.at
    c.in_ok-inside.ensures c.in_ok-at.ensures c.in_ok-rest.ensures
