use Rattle.asm_journal.proofs.FrontObjects.{set_begins}
use Rattle.asm_journal.proofs.front.value.front_set.Goals as goal

pub returns : goal.returns
returns c =
    set_begins c.args.text.now c.in_ok-inside.inside.now c.in_ok-set.left.now c.in_ok-rest.rest.now c.in_ok-set.set
    c.in_ok-inside.ensures c.in_ok-set.ensures c.in_ok-rest.ensures
