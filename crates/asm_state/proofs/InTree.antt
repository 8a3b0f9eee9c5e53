-- The entries of a tree at one location, and what a write there leaves.
use Rattle.std.proofs.Common.{◌≡◌, cond, Option, Some, ap, sym, ◌∙◌}
use Rattle.std.specs.FinMap as map
use Rattle.std.specs.BTreeMap.{BTreeMap, get_by, is_at}
use Rattle.std.specs.BTreeMap as tree
use Rattle.asm_element.specs.Place.{Place, location_cmp, location_cmp_total, location_cmp-IsAntisymmetric}
use Rattle.asm_element.proofs.Ordered.{get-from_tree, insert-from_tree}
use Rattle.asm_state.specs.declared.entries.WrittenValue.{WrittenValue}
use Rattle.asm_state.specs.View.{Entries}

module _ (t : BTreeMap Place WrittenValue) (m : Entries) (l : Place)
    (is : map.from_entries {R = location_cmp} t.entries ≡ m) where
  -- they have what the tree has there
  pub held_there : (o : Option WrittenValue) → o ≡ get_by (location_cmp l) t → map.get m l ≡ o
  held_there o there =
      ap (λ (m : Entries). map.get m l) (sym is) ∙ get-from_tree location_cmp_total t.entries l ∙ sym there

  -- a tree with another entry there has theirs with that one
  pub written_there : (after : BTreeMap Place WrittenValue) (w : WrittenValue) →
      ((q : Place) → tree.get location_cmp after q ≡ cond (is_at (location_cmp l) q) (Some w) (tree.get location_cmp t q)) →
      map.from_entries {R = location_cmp} after.entries ≡ map.insert m l w
  written_there after w wrote =
      insert-from_tree location_cmp_total location_cmp-IsAntisymmetric t after l w wrote
      ∙ ap (λ (s : Entries). map.insert s l w) is
