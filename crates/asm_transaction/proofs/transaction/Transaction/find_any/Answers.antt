use Rattle.std.proofs.Common.{◌≡◌, [], ℕ, IfSome, List, Option, subst}
use Rattle.std.proofs.result.Match.{if_ok_then}
use Rattle.asm_element.specs.Place.{Place}
use Rattle.asm_transaction.specs.Counting.{IsAnyOf}
use Rattle.asm_transaction.proofs.transaction.Transaction.find_any.Goals as goal

pub returns-clause-any : goal.returns-clause-any
returns-clause-any g c =
    let at = subst (λ (o : Option Place). IfSome o (λ l. (l.name ≡ c.args.name.now) × (l.args ≡ []))) c.in-Some.is c.in_ok-first.ensures in
    if_ok_then c.any_from.result _ _ (λ b is a own there. subst (λ (name : List ℕ). IsAnyOf g.A.Aggregator.meaning a c.args.self.now name b)
    at.0 (is a own there)) c.any_from.ensures.any
