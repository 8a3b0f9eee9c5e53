use Rattle.std.proofs.Common.{◌≡◌, List, sym, ◌∙◌, subst}
use Rattle.std.specs.Prelude.{IfOk}
use Rattle.std.specs.Ordering.{eq_by_cmp}
use Rattle.asm_element.specs.Place.{Place, location_cmp}
use Rattle.asm_element.specs.Same.{location_eq-same, pointwise-IsIdentity}
use Rattle.asm_storage.proofs.shared_lists.share_or_copy_places.Goals as goal

pub returns-in-Some : goal.returns-in-Some
returns-in-Some c =
    let same : c.as_slice.result.now ≡ c.args.places.now =
    (pointwise-IsIdentity (eq_by_cmp location_cmp) location_eq-same c.as_slice.result.now c.args.places.now).0 (sym c.eq.ensures ∙ c.if-eq.true) in
    subst (λ (places : List Place). IfOk c.same_list.result (λ list. list ≡ places)) (sym c.as_slice.ensures ∙ same)
    (c.same_list.ensures (λ x y is. is))
