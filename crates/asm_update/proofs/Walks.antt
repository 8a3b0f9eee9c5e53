-- The entries of a map of locations are those of the tree that stands for it, in ascending order.
use Rattle.std.proofs.Common.{◌≡◌, List, sym, ap, subst, ◌∙◌}
use Rattle.std.specs.List.Sorted.{IsStrictlySortedBy}
use Rattle.std.specs.Map.{keys_of}
use Rattle.std.specs.FinMap as map
use Rattle.asm_element.specs.Place.{Place, location_cmp, location_cmp_total}
use Rattle.asm_element.specs.declared.value.Value.{Value}
use Rattle.asm_element.proofs.Ordered.{entries-from_tree}
use Rattle.asm_update.specs.State.{Updates}

module _ (es : List (Place × Value)) (sorted : IsStrictlySortedBy location_cmp (keys_of es)) (U : Updates) (view : map.from_entries es ≡ U) where
  pub walked : es ≡ map.entries U
  walked = sym (entries-from_tree location_cmp_total es sorted) ∙ ap map.entries view

  pub ascending : IsStrictlySortedBy location_cmp (map.keys U)
  ascending = subst (λ (walk : List (Place × Value)). IsStrictlySortedBy location_cmp (keys_of walk)) walked sorted
