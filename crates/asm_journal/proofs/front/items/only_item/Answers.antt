use Rattle.asm_journal.proofs.Compact.{only_begins}
use Rattle.asm_journal.proofs.front.items.only_item.Goals as goal

pub returns : goal.returns
returns g c =
    only_begins g.T.FromJson.is_form c.args.text.now c.in_ok-item.left.now c.in_ok-rest.rest.now c.in_ok-item.item c.in_ok-item.ensures
    c.in_ok-rest.ensures
