use Rattle.std.proofs.Common.{◌≡◌, ◌<◌, [], ℕ, IfSome, List, Option, arith, subst}
use Rattle.std.proofs.result.Match.{if_ok_then}
use Rattle.asm_element.specs.Place.{Place}
use Rattle.asm_transaction.specs.Counting.{IsCountIn}
use Rattle.asm_transaction.proofs.Counts.{count_by_scan}
use Rattle.asm_transaction.proofs.transaction.Transaction.find_count.Goals as goal

pub returns-in_default-clause-count : goal.returns-in_default-clause-count
returns-in_default-clause-count g c a own is =
    let few : c.len.result < 18446744073709551616 = c.len.type_inv in
    count_by_scan g.A.Aggregator.meaning a c.args.self.now c.args.name.now c.in_ok-found.found c.len.result
    (c.in_ok-found.ensures.found a own is) c.proper.ensures c.len.ensures (omega (arith, few))

pub returns-clause-count : goal.returns-clause-count
returns-clause-count g c =
    let at = subst (λ (o : Option Place). IfSome o (λ l. (l.name ≡ c.args.name.now) × (l.args ≡ []))) c.in-Some.is c.in_ok-first.ensures in
    if_ok_then c.count_from.result _ _ (λ n is a own there. subst (λ (name : List ℕ). IsCountIn g.A.Aggregator.meaning a c.args.self.now name n)
    at.0 (is a own there)) c.count_from.ensures.count
