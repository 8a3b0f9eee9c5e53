use Rattle.std.proofs.Common.{Some, IsSome, ap, subst, refl, ◌∙◌}
use Rattle.std.specs.FinMap as map
use Rattle.std.specs.BTreeMap.{get_by}
use Rattle.asm_element.specs.Place.{location_cmp, location_cmp_total, location_cmp-IsAntisymmetric}
use Rattle.asm_element.proofs.Ordered.{insert-from_tree}
use Rattle.asm_step.specs.Outcomes.{Outcomes}
use Rattle.asm_step.proofs.Insertions.{gone_on_there, held_there}
use Rattle.asm_step.proofs.outcomes.Outcomes.extend_in_place.Goals as goal

pub returns-clause-ok : goal.returns-clause-ok
returns-clause-ok g c =
    let l = c.args.at.now in
    let w = c.extend_in_place.new.self in
    let wrote = c.get_mut.follows.holds w in
    let there : IsSome (get_by (location_cmp l) c.self.inside.tree) = subst IsSome c.in-Some.ensures.value refl in
    (gone_on_there (g.A.Aggregator.meaning c.args.aggregator.now) c.extend_in_place.result c.args.self.now _ l c.args.action.now
    c.in-Some.outcome.now w
    (held_there c.self.inside.tree c.args.self.now l (Some c.in-Some.outcome.now) c.self.view_is c.in-Some.ensures.value)
    (insert-from_tree location_cmp_total location_cmp-IsAntisymmetric c.self.inside.tree (c.get_mut.follows.lender w) l w (wrote.3 there).0
    ∙ ap (λ (s : Outcomes). map.insert s l w) c.self.view_is)
    c.extend_in_place.ensures.ok c.extend_in_place.ensures.err).0

pub returns-clause-err : goal.returns-clause-err
returns-clause-err g c =
    let l = c.args.at.now in
    let w = c.extend_in_place.new.self in
    let wrote = c.get_mut.follows.holds w in
    let there : IsSome (get_by (location_cmp l) c.self.inside.tree) = subst IsSome c.in-Some.ensures.value refl in
    (gone_on_there (g.A.Aggregator.meaning c.args.aggregator.now) c.extend_in_place.result c.args.self.now _ l c.args.action.now
    c.in-Some.outcome.now w
    (held_there c.self.inside.tree c.args.self.now l (Some c.in-Some.outcome.now) c.self.view_is c.in-Some.ensures.value)
    (insert-from_tree location_cmp_total location_cmp-IsAntisymmetric c.self.inside.tree (c.get_mut.follows.lender w) l w (wrote.3 there).0
    ∙ ap (λ (s : Outcomes). map.insert s l w) c.self.view_is)
    c.extend_in_place.ensures.ok c.extend_in_place.ensures.err).1
