-- Terms: what reading them finds.
use Rattle.std.proofs.Common.{◌≡◌, ◌≢◌, ◌<◌, ℕ, suc, max, sym, ap, subst, ◌∙◌, arith}
use Rattle.std.proofs.Math.Nat.{le-max_left, le-max_right}
use Rattle.serde_json.specs.Data.{Data, depth}
use Rattle.asm_element.specs.Place.{Place}
use Rattle.asm_element.specs.declared.value.Value.{Value}
use Rattle.asm_journal.specs.Element.{IsLocationForm}
use Rattle.asm_journal.specs.Value.{IsValueForm}
use Rattle.asm_journal.proofs.Arrays.{same_one, same_key, same_pair}
use Rattle.asm_journal.proofs.Words.{measure}
use Rattle.asm_script.specs.TermForm.{val_json_of, sum_json_of, IsTermForm}
use Rattle.asm_script.specs.declared.term.Term.{Term}
use Rattle.asm_script.specs.declared.term.Term.TheVariants as term
use Rattle.asm_script.specs.declared.term.Term.TheVariants.{Val, Sum'}

not_both : (at a b : Data) → val_json_of at ≡ sum_json_of a b → ⊥
unfolding measure
not_both at a b e = absurd (omega (arith, ap measure (same_key _ _ _ _ e)))

same_sum : (a b x y : Data) → sum_json_of a b ≡ sum_json_of x y → (a ≡ x) × (b ≡ y)
same_sum a b x y e = same_pair _ _ _ _ (same_one _ _ _ e)

-- the value is the form of no term where it is that of no value, and ..
module _ (d : Data) (plain : (v : Value) → IsValueForm v d → ⊥) where
  -- .. what stands under `val` is that of no location
  pub no_val : (at : Data) → d ≡ val_json_of at → ((l : Place) → IsLocationForm l at → ⊥) → (t : Term) →
      IsTermForm t d → ⊥
  no_val at is none (term.Value v) h = plain v h
  no_val at is none (Val l) h = none l (subst (IsLocationForm l) (same_one _ _ _ (sym h.1 ∙ is)) h.2)
  no_val at is none (Sum' p x q y) h = not_both _ _ _ (sym is ∙ h.2)

  -- .. it has neither key
  pub no_keys : ((at : Data) → d ≢ val_json_of at) → ((a b : Data) → d ≢ sum_json_of a b) → (t : Term) →
      IsTermForm t d → ⊥
  no_keys val sum (term.Value v) h = plain v h
  no_keys val sum (Val l) h = val h.0 h.1
  no_keys val sum (Sum' p x q y) h = sum h.0 h.1 h.2

  -- .. one of two terms is that of none
  pub no_first : (a b : Data) → d ≡ sum_json_of a b → ((t : Term) → IsTermForm t a → ⊥) → (t : Term) →
      IsTermForm t d → ⊥
  no_first a b is none (term.Value v) h = plain v h
  no_first a b is none (Val l) h = not_both _ _ _ (sym h.1 ∙ is)
  no_first a b is none (Sum' p x q y) h = none x (subst (IsTermForm x) (same_sum _ _ _ _ (sym h.2 ∙ is)).0 h.3)

  pub no_second : (a b : Data) → d ≡ sum_json_of a b → ((t : Term) → IsTermForm t b → ⊥) → (t : Term) →
      IsTermForm t d → ⊥
  no_second a b is none (term.Value v) h = plain v h
  no_second a b is none (Val l) h = not_both _ _ _ (sym h.1 ∙ is)
  no_second a b is none (Sum' p x q y) h = none y (subst (IsTermForm y) (same_sum _ _ _ _ (sym h.2 ∙ is)).1 h.4)

-- ---- the terms of a sum nest less deep than it

-- how deep the array of two values nests
abbrev pair_depth : Data → Data → ℕ
pair_depth a b = max (depth a) (max (depth b) 0)

pub first_depth : (d a b : Data) → d ≡ sum_json_of a b → depth a < depth d
first_depth d a b is =
    omega (arith, ap depth is, le-max_left (depth a) (max (depth b) 0), le-max_left (suc (pair_depth a b)) 0)

pub second_depth : (d a b : Data) → d ≡ sum_json_of a b → depth b < depth d
second_depth d a b is =
    omega (
      arith,
      ap depth is,
      le-max_left (depth b) 0,
      le-max_right (depth a) (max (depth b) 0),
      le-max_left
          (suc (pair_depth a b)) 0,
    )
