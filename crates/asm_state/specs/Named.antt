-- `==` of declared reads decides whether they are the same.
use Rattle.std.specs.Prelude.{Bool, ◌&&◌, ◌==◌}
use Rattle.std.proofs.Common.{◌∙◌}
use Rattle.std.specs.Cmp.{IsEquivalence, decided, unsigned_Decides}
use Rattle.std.specs.Ordering.{eq_by_cmp}
use Rattle.asm_element.specs.Items.{IsIdentity}
use Rattle.asm_element.specs.Place.{location_cmp}
use Rattle.asm_element.specs.Same.{location_eq-same}
use Rattle.asm_element.specs.Tests.{both}
use Rattle.asm_state.specs.declared.named.Named.{Named}

-- whether two declared reads have equal locations and equal numbers
abbrev pub named_eq : Named → Named → Bool
named_eq r s = eq_by_cmp location_cmp r.at s.at && r.number == s.number

pub named_eq-same : IsIdentity named_eq
named_eq-same r s = (
  λ h.
      let parts = both (eq_by_cmp location_cmp r.at s.at) (r.number == s.number) h in
      let at = (location_eq-same r.at s.at).0 parts.0 in
      let number = (unsigned_Decides r.number s.number).0 parts.1 in
      λ i. record { at = at i; number = number i },
  λ e.
      (λ i. (location_eq-same r.at s.at).1 (λ n. (e n).at) i && r.number == s.number)
      ∙ (unsigned_Decides r.number s.number).1 (λ n. (e n).number),
)

pub named_eq-equiv : IsEquivalence named_eq
named_eq-equiv = decided named_eq named_eq-same
