use Rattle.asm_journal.proofs.FrontObjects.{fired_begins}
use Rattle.asm_journal.proofs.front.answer.front_fired.Goals as goal

pub returns : goal.returns
returns c =
    fired_begins c.args.text.now c.in_ok-inside.inside.now c.in_ok-fired.left.now c.in_ok-rest.rest.now c.in_ok-fired.fired
    c.in_ok-inside.ensures c.in_ok-fired.ensures c.in_ok-rest.ensures
