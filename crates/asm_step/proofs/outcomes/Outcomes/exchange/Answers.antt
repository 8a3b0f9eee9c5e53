use Rattle.std.proofs.Common.{Some, IsSome, ap, sym, subst, refl, ◌∙◌}
use Rattle.std.specs.FinMap as map
use Rattle.std.specs.BTreeMap.{get_by}
use Rattle.asm_element.specs.Place.{location_cmp, location_cmp_total, location_cmp-IsAntisymmetric}
use Rattle.asm_element.proofs.Ordered.{get-from_tree, insert-from_tree}
use Rattle.asm_step.specs.Outcomes.{Outcome, Outcomes}
use Rattle.asm_step.proofs.outcomes.Outcomes.exchange.Goals as goal

pub returns-in_default-clause-absent : goal.returns-in_default-clause-absent
returns-in_default-clause-absent c =
    ap (λ (m : Outcomes). map.get m c.args.at.now) (sym c.self.view_is)
    ∙ get-from_tree location_cmp_total c.self.inside.tree.entries c.args.at.now ∙ sym c.in_default.ensures.value

pub returns-clause-there : goal.returns-clause-there
returns-clause-there c =
    ap (λ (m : Outcomes). map.get m c.args.at.now) (sym c.self.view_is)
    ∙ get-from_tree location_cmp_total c.self.inside.tree.entries c.args.at.now ∙ sym c.in-Some.ensures.value
    ∙ ap Some (sym c.replace.ensures.value)

pub returns-clause-ok : goal.returns-clause-ok
returns-clause-ok c =
    let wrote = c.get_mut.follows.holds c.replace.new.dest in
    let there : IsSome (get_by (location_cmp c.args.at.now) c.self.inside.tree) = subst IsSome c.in-Some.ensures.value refl in
    insert-from_tree location_cmp_total location_cmp-IsAntisymmetric c.self.inside.tree (c.get_mut.follows.lender c.replace.new.dest) c.args.at.now c.replace.new.dest (wrote.3 there).0
    ∙ ap (λ (s : Outcomes). map.insert s c.args.at.now c.replace.new.dest) c.self.view_is
    ∙ ap (λ (w : Outcome). map.insert c.args.self.now c.args.at.now w) c.replace.ensures.after
