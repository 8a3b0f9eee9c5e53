use Rattle.std.proofs.Common.{arith, inl, inr, subst, sym, ◌∙◌}
use Rattle.asm_state.specs.Listed.{IsListOf, IsListing, by_value}
use Rattle.asm_state.specs.Plain.{value_of_name}
use Rattle.asm_storage.specs.Part.{IsFollowing}
use Rattle.asm_storage.specs.Storage.{AgentAt, machine_of}
use Rattle.asm_transaction.specs.Reading.{IsOf}
use Rattle.asm_transaction.specs.Scanning.{IsScan}
use Rattle.asm_transaction.specs.View.{TransactionView, names_of, places_of}
use Rattle.asm_transaction.proofs.Shown.{found_weaker, is_scan_list}
use Rattle.asm_transaction.proofs.transaction.Transaction.list_name.Goals as goal

pub returns-clause-found : goal.returns-clause-found
returns-clause-found g c =
    let meaning = g.A.Aggregator.meaning in
    let s = c.args.state.now in
    let t = c.args.self.now in
    let name = c.args.name.now in
    let inside : TransactionView = record {
      number = c.self.inside.number;
      layers = c.self.inside.step;
      tracked = places_of c.self.inside.tracked.items;
      scanned = names_of c.self.inside.scanned.items;
    } in
    found_weaker (λ list. IsListing (value_of_name s name) (by_value list.items))
    (λ list. IsListOf (λ P. (a : AgentAt g.row.A.Denot) → IsFollowing (machine_of meaning a.storage) a.account.seen s → IsOf meaning a t → IsScan meaning a t name P) (by_value list.items))
    (λ unnamed. inr unnamed)
    (λ list. is_scan_list meaning s t inside name (by_value list.items) c.self.view_is (sym c.number.ensures ∙ c.if-number-self.false)
    (omega (arith, c.depth.ensures.value, c.if-depth-gt0.false)))
    c.in_ok-found.found c.in_ok-found.ensures
