use Rattle.std.proofs.Common.{◌≡◌, rules}
use Rattle.asm_transaction.specs.Tracked.{last_partial_places}
use Rattle.asm_transaction.specs.View.{TransactionView, names_of, places_of}
use Rattle.asm_transaction.proofs.PoppedGroups.{popped_some}
use Rattle.asm_transaction.proofs.transaction.Transaction.pop.Goals as goal

pub returns-clause-popped : goal.returns-clause-popped
returns-clause-popped c =
    let inside : TransactionView = record {
      number = c.self.inside.number;
      layers = c.self.inside.step;
      tracked = places_of c.self.inside.tracked.items;
      scanned = names_of c.self.inside.scanned.items;
    } in
    let are : c.in-Some.places.items ≡ last_partial_places c.args.self.now = search rules in
    popped_some c.pop.result c.args.self.now inside c.pop.new.self c.in-Some.places.items c.in_ok-tracked.tracked.items c.self.view_is
    are c.in_ok-tracked.ensures.all c.in_ok-tracked.ensures.few c.pop.ensures.less
