use Rattle.std.proofs.Common.{◌≡◌, ap, length, arith}
use Rattle.std.proofs.lemmas.Bool.Decides.{nat_tests}
use Rattle.std.proofs.lemmas.List.Folds.{list_all-append}
use Rattle.asm_aggregate.specs.laws.FamilyLemmas.{nil_parts}
use Rattle.asm_state_tests.proofs.aggregate.joins.join_by.Goals as goal

pub join-requires-clause-some : goal.join-requires-clause-some
join-requires-clause-some g c = λ none.
    (let parts = nil_parts c.args.first.now c.args.second.now none in
    let one : length c.args.first.now ≡ 0 = ap length parts.0 in
    let two : length c.args.second.now ≡ 0 = ap length parts.1 in
    absurd (grind (arith, nat_tests)))

pub join-requires-clause-partial : goal.join-requires-clause-partial
join-requires-clause-partial g c = rw list_all-append (grind arith)
