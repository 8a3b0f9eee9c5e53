use Rattle.std.proofs.Common.{ap, sym, ◌∙◌}
use Rattle.std.specs.FinMap as map
use Rattle.asm_element.specs.Place.{location_cmp_total, location_cmp-IsAntisymmetric}
use Rattle.asm_element.specs.Tests.{on_err}
use Rattle.asm_element.proofs.Ordered.{get-from_tree, insert-from_tree}
use Rattle.asm_state.specs.View.{Entries}
use Rattle.asm_state.proofs.entries.Entries.put.Goals as goal

pub returns-clause-ok : goal.returns-clause-ok
returns-clause-ok c =
    insert-from_tree location_cmp_total location_cmp-IsAntisymmetric c.self.inside.tree c.insert.new.self c.args.at c.args.written c.in_ok-insert.ensures.updates.0
    ∙ ap (λ s. map.insert s c.args.at c.args.written) c.self.view_is

pub returns-in_err-insert-clause-absent : goal.returns-in_err-insert-clause-absent
returns-in_err-insert-clause-absent c =
    on_err _ (ap (λ (m : Entries). map.get m c.args.at) (sym c.self.view_is) ∙ get-from_tree location_cmp_total c.self.inside.tree.entries c.args.at ∙ c.in_err-insert.ensures.absent)
