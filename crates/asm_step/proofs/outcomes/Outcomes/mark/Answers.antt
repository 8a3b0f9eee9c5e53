use Rattle.std.proofs.Common.{IsSome, subst, refl}
use Rattle.std.specs.BTreeMap.{get_by}
use Rattle.asm_element.specs.Place.{location_cmp}
use Rattle.asm_step.proofs.Insertions.{changed_there, not_there}
use Rattle.asm_step.proofs.outcomes.Outcomes.mark.Goals as goal

pub returns : goal.returns
returns c =
    let wrote = c.get_mut.follows.holds c.mark.new.self in
    let there : IsSome (get_by (location_cmp c.args.at.now) c.self.inside.tree) = subst IsSome c.in-Some.ensures.value refl in
    changed_there c.self.inside.tree (c.get_mut.follows.lender c.mark.new.self) c.args.self.now c.args.at.now
    c.in-Some.outcome.now c.mark.new.self (λ o. record o { builds = o.depends }) c.self.view_is
    c.in-Some.ensures.value (wrote.3 there).0 c.mark.ensures

pub returns-in_default : goal.returns-in_default
returns-in_default c =
    not_there c.self.inside.tree _ c.args.self.now c.args.at.now (λ o. record o { builds = o.depends })
    c.self.view_is c.in_default.ensures.value c.get_mut.follows.holds-at-none
