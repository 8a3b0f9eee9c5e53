use Rattle.std.proofs.Common.{◌≡◌, false, ap, sym, ◌∙◌}
use Rattle.std.specs.FinMap as map
use Rattle.asm_element.specs.Place.{location_cmp, location_cmp_total, location_cmp-IsAntisymmetric}
use Rattle.asm_element.specs.Place as place
use Rattle.asm_element.specs.Value as held
use Rattle.std.proofs.lemmas.Map.Views.{All-keys-insert_entry, All-values-insert_entry}
use Rattle.asm_element.specs.Tests.{on_err}
use Rattle.asm_element.proofs.Ordered.{insert-from_tree, get-from_tree}
use Rattle.asm_update.proofs.plain_state.PlainState.put_in.Goals as goal

pub returns-clause-ok : goal.returns-clause-ok
returns-clause-ok c =
    insert-from_tree location_cmp_total location_cmp-IsAntisymmetric c.self.inside.values c.insert.new.self c.args.at c.args.value c.in_ok-insert.ensures.updates.0
    ∙ ap (λ s. map.insert s c.args.at c.args.value) c.self.view_is

pub invariant_of-self-2 : goal.invariant_of-self-2
invariant_of-self-2 c = record {
  ordered = c.insert.ensures.ordered;
  no_undef = rw c.in_ok-insert.ensures.entries (All-values-insert_entry location_cmp c.args.at c.args.value (λ v. held.is_undef v ≡ false) c.self.inside.values.entries c.self.invariant.no_undef c.requires);
  locations = rw c.in_ok-insert.ensures.entries (All-keys-insert_entry location_cmp c.args.at c.args.value place.IsProper c.self.inside.values.entries c.self.invariant.locations c.proper.ensures);
  values = rw c.in_ok-insert.ensures.entries (All-values-insert_entry location_cmp c.args.at c.args.value held.IsProper c.self.inside.values.entries c.self.invariant.values c.proper-2.ensures);
}

pub returns-in_err-insert-clause-absent : goal.returns-in_err-insert-clause-absent
returns-in_err-insert-clause-absent c =
    let held = ap (λ s. map.get s c.args.at) (sym c.self.view_is) ∙ get-from_tree location_cmp_total c.self.inside.values.entries c.args.at in
    on_err c.from_residual.result (held ∙ c.in_err-insert.ensures.absent)
