use Rattle.std.proofs.Common.{◌++◌, ◌∷◌, []}
use Rattle.asm_transaction.specs.View.{TransactionView, names_of, places_of}
use Rattle.asm_transaction.proofs.Growing.{grown_on, is_refusal}
use Rattle.asm_transaction.proofs.transaction.Transaction.push_move.Goals as goal

pub returns-clause-grown : goal.returns-clause-grown
returns-clause-grown g c a below at =
    let inside : TransactionView = record {
      number = c.self.inside.number;
      layers = c.self.inside.step;
      tracked = places_of c.self.inside.tracked.items;
      scanned = names_of c.self.inside.scanned.items;
    } in
    grown_on g.A.Aggregator.meaning a c.args.aggregator.now c.args.state.now c.args.self.now inside
    c.push.new.self (λ gs. gs ++ (c.args.instrs.now ∷ []) ∷ []) c.push.result c.self.view_is below at c.push.ensures.step

pub returns-clause-refused : goal.returns-clause-refused
returns-clause-refused g c a below at =
    let inside : TransactionView = record {
      number = c.self.inside.number;
      layers = c.self.inside.step;
      tracked = places_of c.self.inside.tracked.items;
      scanned = names_of c.self.inside.scanned.items;
    } in
    is_refusal g.A.Aggregator.meaning a c.args.aggregator.now c.args.state.now c.args.self.now inside
    c.push.new.self c.args.instrs.now c.push.result c.self.view_is below at
    c.push.ensures.answer c.push.ensures.answer_on c.push.ensures.err
