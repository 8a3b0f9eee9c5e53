use Rattle.asm_journal.proofs.FrontObjects.{bag_begins}
use Rattle.asm_journal.proofs.front.value.front_bag.Goals as goal

pub returns : goal.returns
returns c =
    bag_begins c.args.text.now c.in_ok-inside.inside.now c.in_ok-bag.left.now c.in_ok-rest.rest.now c.in_ok-bag.bag
    c.in_ok-inside.ensures c.in_ok-bag.ensures c.in_ok-rest.ensures
