use Rattle.std.proofs.Common.{◌≡◌, false, ap, ◌∙◌}
use Rattle.std.specs.FinMap as map
use Rattle.asm_element.specs.Place.{location_cmp_total, location_cmp-IsAntisymmetric}
use Rattle.asm_element.specs.Place as place
use Rattle.asm_element.specs.Value as held
use Rattle.std.proofs.lemmas.Map.Views.{All-map-remove_entry}
use Rattle.asm_element.proofs.Ordered.{remove-from_tree}
use Rattle.asm_update.proofs.plain_state.PlainState.take_out.Goals as goal

pub returns : goal.returns
returns c =
    remove-from_tree location_cmp_total location_cmp-IsAntisymmetric c.self.inside.values c.remove.new.self c.args.at.now c.remove.ensures.updates.0
    ∙ ap (λ s. map.remove s c.args.at.now) c.self.view_is

pub invariant_of-self : goal.invariant_of-self
invariant_of-self c = record {
  ordered = c.remove.ensures.ordered;
  no_undef = rw c.remove.ensures.entries (All-map-remove_entry _ (λ p. p.1) (λ v. held.is_undef v ≡ false) c.self.inside.values.entries c.self.invariant.no_undef);
  locations = rw c.remove.ensures.entries (All-map-remove_entry _ (λ p. p.0) place.IsProper c.self.inside.values.entries c.self.invariant.locations);
  values = rw c.remove.ensures.entries (All-map-remove_entry _ (λ p. p.1) held.IsProper c.self.inside.values.entries c.self.invariant.values);
}
