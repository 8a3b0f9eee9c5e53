use Rattle.std.proofs.Common.{Some, ap, sym, ◌∙◌}
use Rattle.std.specs.FinMap as map
use Rattle.asm_element.specs.Place.{location_cmp_total}
use Rattle.asm_element.proofs.Ordered.{get-from_tree}
use Rattle.asm_step.proofs.outcomes.Outcomes.held.Goals as goal

pub returns-in-Some : goal.returns-in-Some
returns-in-Some c =
    ap Some c.of.ensures ∙ c.in-Some.ensures.value ∙ sym (get-from_tree location_cmp_total c.self.inside.tree.entries c.args.at.now)
    ∙ ap (λ s. map.get s c.args.at.now) c.self.view_is

pub returns-in-None : goal.returns-in-None
returns-in-None c =
    c.in-None.ensures.value ∙ sym (get-from_tree location_cmp_total c.self.inside.tree.entries c.args.at.now)
    ∙ ap (λ s. map.get s c.args.at.now) c.self.view_is
