use Rattle.std.proofs.Common.{refl, rules}
use Rattle.asm_transaction.specs.View.{TransactionView, names_of, places_of}
use Rattle.asm_transaction.proofs.Recorded.{names_few, names_many}
use Rattle.asm_transaction.proofs.transaction.Transaction.prepare_within.Goals as goal

pub returns-then-as_slice-len-clause-err : goal.returns-then-as_slice-len-clause-err
returns-then-as_slice-len-clause-err c =
    let inside : TransactionView = record {
      number = c.self.inside.number;
      layers = c.self.inside.step;
      tracked = places_of c.self.inside.tracked.items;
      scanned = names_of c.self.inside.scanned.items;
    } in
    names_many c.args.self.now inside c.self.inside.scanned.items c.in-Ok.prepared.1 c.as_slice.result.now c.self.view_is refl
    c.as_slice.ensures c.in-Ok.ensures.names (search rules)

pub returns-clause-few : goal.returns-clause-few
returns-clause-few c =
    let inside : TransactionView = record {
      number = c.self.inside.number;
      layers = c.self.inside.step;
      tracked = places_of c.self.inside.tracked.items;
      scanned = names_of c.self.inside.scanned.items;
    } in
    names_few c.args.self.now inside c.self.inside.scanned.items c.in-Ok.prepared.1 c.as_slice.result.now c.self.view_is refl
    c.as_slice.ensures (search rules)
