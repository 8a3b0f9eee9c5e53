use Rattle.std.proofs.Common.{◌≡◌, Some, refl, sym, ap, ◌∙◌}
use Rattle.std.proofs.lemmas.Bool.{false≢true}
use Rattle.std.proofs.lemmas.Option.{none-some}
use Rattle.std.specs.FinMap as map
use Rattle.asm_element.specs.Place.{location_cmp_total, location_cmp-IsAntisymmetric}
use Rattle.asm_element.proofs.Ordered.{get-from_tree}
use Rattle.asm_state.proofs.entries.Entries.location_of.Goals as goal

pub returns-in-Some-clause-same : goal.returns-in-Some-clause-same
returns-in-Some-clause-same c = sym (location_cmp-IsAntisymmetric c.args.at.now c.in-Some.held.now c.in-Some.ensures.same_key)

pub returns-in-Some-clause-none : goal.returns-in-Some-clause-none
returns-in-Some-clause-none c =
    let has : map.get c.args.self.now c.args.at.now ≡ Some c.in-Some.field-0-1.now =
    ap (λ s. map.get s c.args.at.now) (sym c.self.view_is) ∙ get-from_tree location_cmp_total c.self.inside.tree.entries c.args.at.now
    ∙ sym c.in-Some.ensures.value in
    (λ is. absurd (false≢true (sym is)), λ none. absurd (none-some c.in-Some.field-0-1.now (sym none ∙ has)))

pub returns-in-None-clause-none : goal.returns-in-None-clause-none
returns-in-None-clause-none c = (
  λ _. ap (λ s. map.get s c.args.at.now) (sym c.self.view_is) ∙ get-from_tree location_cmp_total c.self.inside.tree.entries c.args.at.now
      ∙ sym c.in-None.ensures.value,
  λ _. refl,
)
