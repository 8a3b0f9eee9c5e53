use Rattle.std.proofs.Common.{sym, subst}
use Rattle.asm_journal.specs.Shape.{BeginsAs, IsListForm}
use Rattle.asm_journal.proofs.Compact.{array_begins}
use Rattle.asm_journal.proofs.front.items.ListedFromFront.from_front.Goals as goal

pub returns : goal.returns
returns g c =
    let F = g.T.FromJson.is_form in
    let read = array_begins F c.args.text.now c.in_ok-inside.inside.now c.in_ok-items.rest.now c.in_ok-items.items.items
    c.in_ok-inside.ensures c.in_ok-items.ensures in
    subst (λ xs. BeginsAs (IsListForm F) c.args.text.now xs c.in_ok-items.rest.now) (sym c.new.ensures) read
