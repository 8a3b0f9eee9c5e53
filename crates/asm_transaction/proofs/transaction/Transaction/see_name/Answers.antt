use Rattle.std.proofs.Common.{◌∙◌, sym}
use Rattle.asm_transaction.specs.View.{TransactionView, names_of, places_of}
use Rattle.asm_transaction.proofs.Shown.{is_scan}
use Rattle.asm_transaction.proofs.transaction.Transaction.see_name.Goals as goal

pub returns-clause-found : goal.returns-clause-found
returns-clause-found g c a own is =
    let inside : TransactionView = record {
      number = c.self.inside.number;
      layers = c.self.inside.step;
      tracked = places_of c.self.inside.tracked.items;
      scanned = names_of c.self.inside.scanned.items;
    } in
    is_scan g.A.Aggregator.meaning a c.args.state.now c.args.self.now inside c.args.name.now
    c.in_ok-below.below c.in_ok-found.found c.self.view_is own
    (sym c.number.ensures ∙ c.if-number-self.false) c.in_ok-below.ensures c.in_ok-found.ensures is
