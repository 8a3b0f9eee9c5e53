use Rattle.std.proofs.Common.{◌∙◌, sym}
use Rattle.asm_transaction.specs.View.{TransactionView, names_of, places_of}
use Rattle.asm_transaction.proofs.Shown.{shows_all}
use Rattle.asm_transaction.proofs.transaction.Transaction.shows.Goals as goal

pub returns-clause-shown : goal.returns-clause-shown
returns-clause-shown g c a own is =
    let inside : TransactionView = record {
      number = c.self.inside.number;
      layers = c.self.inside.step;
      tracked = places_of c.self.inside.tracked.items;
      scanned = names_of c.self.inside.scanned.items;
    } in
    shows_all g.A.Aggregator.meaning a c.args.state.now c.args.self.now inside c.over.result c.self.view_is c.over.ensures own
    (sym c.number.ensures ∙ c.if-number-self.false) is
