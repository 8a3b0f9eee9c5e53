use Rattle.std.proofs.Common.{◌≡◌, ◌∙◌, [], refl, sym}
use Rattle.std.proofs.lemmas.Bool.{eqb-true}
use Rattle.std.proofs.lemmas.List.{nil_from_length}
use Rattle.asm_transaction.specs.View.{TransactionView, names_of, places_of}
use Rattle.asm_transaction.proofs.TrackedLists.{tracked_alone}
use Rattle.asm_transaction.proofs.transaction.Transaction.list_with.Goals as goal

pub returns-then-is_empty-clause-locations : goal.returns-then-is_empty-clause-locations
returns-then-is_empty-clause-locations c =
    let inside : TransactionView = record {
      number = c.self.inside.number;
      layers = c.self.inside.step;
      tracked = places_of c.self.inside.tracked.items;
      scanned = names_of c.self.inside.scanned.items;
    } in
    let none : c.args.locations.items ≡ [] =
    nil_from_length c.args.locations.items
    (sym c.args.locations.ok.0 ∙ eqb-true c.args.locations.len 0 (sym c.is_empty.ensures ∙ c.if-is_empty.true)) in
    tracked_alone c.args.self.now inside c.self.inside.tracked.items c.in_ok-reads.reads c.args.locations.items c.self.view_is refl
    c.self.invariant.0 (c.in_ok-reads.ensures ∙ c.deref.ensures.value) none
