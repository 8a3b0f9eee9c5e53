use Rattle.asm_journal.proofs.FrontObjects.{clashed_begins}
use Rattle.asm_journal.proofs.front.answer.front_clash.Goals as goal

pub returns : goal.returns
returns c =
    clashed_begins c.args.text.now c.in_ok-inside.inside.now c.in_ok-clash.left.now c.in_ok-rest.rest.now c.in_ok-clash.clash
    c.in_ok-inside.ensures c.in_ok-clash.ensures c.in_ok-rest.ensures
