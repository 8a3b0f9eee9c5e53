use Rattle.asm_transaction.specs.View.{TransactionView, names_of, places_of}
use Rattle.asm_transaction.proofs.PoppedMoves.{popped_move}
use Rattle.asm_transaction.proofs.transaction.Transaction.pop_move.Goals as goal

pub returns-clause-popped : goal.returns-clause-popped
returns-clause-popped g c =
    let inside : TransactionView = record {
      number = c.self.inside.number;
      layers = c.self.inside.step;
      tracked = places_of c.self.inside.tracked.items;
      scanned = names_of c.self.inside.scanned.items;
    } in
    let one = rw c.in-Ok-Some.field-0-is at c.in-Ok-Some.ensures.some in
    let does = rw c.in-Ok-Some.field-0-is at c.in-Ok-Some.ensures.one in
    let any = rw c.in-Ok-Some.field-0-is at c.in-Ok-Some.ensures.pushed in
    popped_move (g.A.Aggregator.meaning c.args.aggregator.now) c.args.self.now inside c.pop.new.self c.in-Ok.tracked.items
    c.in-Ok-Some.one c.pop.result c.self.view_is c.in-Ok.ensures.all c.in-Ok.ensures.few one does
    c.pop.ensures.less
    c.pop.ensures.none any
