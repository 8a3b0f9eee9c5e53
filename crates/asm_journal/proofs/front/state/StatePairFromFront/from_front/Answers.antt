use Rattle.asm_journal.proofs.FrontObjects.{state_pair_begins}
use Rattle.asm_journal.proofs.front.state.StatePairFromFront.from_front.Goals as goal

pub returns : goal.returns
returns c =
    state_pair_begins c.args.text.now c.in_ok-inside.inside.now c.in_ok-at.left.now c.in_ok-second.second.now c.in_ok-value.end.now
    c.in_ok-rest.rest.now c.in_ok-at.at c.in_ok-value.value c.in_ok-inside.ensures c.in_ok-at.ensures c.in_ok-second.ensures
    c.in_ok-value.ensures c.in_ok-rest.ensures
