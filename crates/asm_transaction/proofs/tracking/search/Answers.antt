use Rattle.std.proofs.Common.{of_calls, rules}
use Rattle.std.proofs.lemmas.Fn.{always_returns_same}
use Rattle.asm_element.specs.Place.{location_cmp}
use Rattle.asm_state.specs.declared.named.Named.{Named}
use Rattle.asm_transaction.proofs.TrackedLists.{searched}
use Rattle.asm_transaction.proofs.tracking.search.Goals as goal

-- the closure compares a read's location
pub returns : goal.returns
returns c =
    let facts = c.binary_search_by.ensures in
    searched c.args.reads.now c.args.at.now c.requires c.binary_search_by.result facts.bound
    (facts.position (λ (r : Named). location_cmp r.at c.args.at.now) (always_returns_same _ _ _ (λ a r f k. search (rules, of_calls))))
