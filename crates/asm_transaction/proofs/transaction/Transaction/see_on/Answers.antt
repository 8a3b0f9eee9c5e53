use Rattle.std.proofs.Common.{◌∙◌, sym}
use Rattle.asm_transaction.specs.View.{TransactionView, names_of, places_of}
use Rattle.asm_transaction.proofs.Shown.{is_shown}
use Rattle.asm_transaction.proofs.transaction.Transaction.see_on.Goals as goal

pub returns-clause-value : goal.returns-clause-value
returns-clause-value g c a own is =
    let inside : TransactionView = record {
      number = c.self.inside.number;
      layers = c.self.inside.step;
      tracked = places_of c.self.inside.tracked.items;
      scanned = names_of c.self.inside.scanned.items;
    } in
    is_shown g.A.Aggregator.meaning a c.args.state.now c.args.self.now inside c.args.at.now c.in_ok-value.value
    c.self.view_is own (sym c.number.ensures ∙ c.if-number-self.false)
    (λ B there. c.in_ok-value.ensures ∙ c.get.ensures.overwritten B there) is
