use Rattle.std.proofs.Common.{rules, refl, sym}
use Rattle.asm_storage.specs.Storage.{IsSameAgent}
use Rattle.asm_storage_tests.proofs.RanKeeps.{ran_keeps}
use Rattle.asm_storage_tests.specs.contracts.storage.contests.fn.fire_against.try_fire_with as closure
use Rattle.asm_storage_tests.proofs.storage.contests.fire_against.Goals as goal

pub returns-clause-second : goal.returns-clause-second
returns-clause-second c =
    let offers = c.try_fire_with-given.ensures.offers in
    let kept = ran_keeps _ (λ f. IsSameAgent c.args.other.now (closure.captures f).other.now)
    (λ f. (closure.captures f).other.ghost_name) (λ f g step p. search rules) _ offers.0 _ offers.2
    (record { storage = refl; id = refl }) in
    search (rules, sym kept.1, kept.0)

pub returns-then-left-clause-second : goal.returns-then-left-clause-second
returns-then-left-clause-second c =
    let offers = c.try_fire_with-given.ensures.offers in
    let kept = ran_keeps _ (λ f. IsSameAgent c.args.other.now (closure.captures f).other.now)
    (λ f. (closure.captures f).other.ghost_name) (λ f g step p. search rules) _ offers.0 _ offers.2
    (record { storage = refl; id = refl }) in
    search (rules, sym kept.1, kept.0)
