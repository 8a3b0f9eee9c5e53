-- Sums of increments.
use Rattle.std.proofs.Common.{◌≡◌, ◌≢◌, ℕ, suc, ℤ, pos, negsuc, ◌+ℤ◌, ◌-ℤ◌, Bool, true, false, cond}
use Rattle.std.proofs.Common.{List, [], ◌∷◌, map, refl, sym, ap, ◌∙◌, arith}
use Rattle.std.specs.Prelude.{Option, None, Some, unwrap_or, is_some, IsPermutation, int_lt, FitsSigned, sum_by}
use Rattle.std.specs.Cmp.{signed_Decides}
use Rattle.std.specs.Int.{w64}
use Rattle.std.specs.Ordering.{int_eq}
use Rattle.std.specs.List.{list_all}
use Rattle.std.proofs.lemmas.Int.{ints}
use Rattle.std.proofs.lemmas.List.Sorted.{sum_by-IsPermutation}
use Rattle.asm_element.specs.Element.{number_in, number_is}
use Rattle.asm_element.specs.declared.element.Element.TheVariants.{Num}
use Rattle.asm_element.specs.declared.value.Value.{Value}
use Rattle.asm_element.specs.declared.value.Value.TheVariants as values
use Rattle.asm_update.specs.Action.{is_of}
use Rattle.asm_update.specs.declared.action.Action.{Action}
use Rattle.asm_update.specs.declared.action.Action.TheVariants.{Increment}
use Rattle.asm_update.specs.declared.action.Family.TheVariants.{Count}
use Rattle.asm_aggregate.specs.Families.{is_kind}
use Rattle.asm_aggregate.specs.CountMeaning.{number, increment, total, is_outside, is_beyond, split}
use Rattle.asm_aggregate.specs.laws.BagAlgebra.{summed}

-- by how much a number raises another one, and by how much it lowers it
abbrev pub up : ℤ → ℕ
up (pos n) = n
up (negsuc n) = 0

abbrev pub down : ℤ → ℕ
down (pos n) = 0
down (negsuc n) = suc n

pub up_down : (n : ℤ) → n ≡ pos (up n) -ℤ pos (down n)
up_down (pos n) = omega (arith, ints)
up_down (negsuc n) = omega (arith, ints)

-- how much an action raises, and how much it lowers
abbrev pub raise : Action → ℕ
raise a = up (increment a)

abbrev pub lower : Action → ℕ
lower a = down (increment a)

-- a sum from its two parts
pub total_is : (xs : List Action) → total xs ≡ pos (sum_by raise xs) -ℤ pos (sum_by lower xs)
total_is [] = refl
total_is (x ∷ xs) =
    let one = up_down (increment x) in
    let rest = total_is xs in
    let raised = summed raise x xs in
    let lowered = summed lower x xs in
    omega (arith, ints, one, rest, raised, lowered)

pub total-IsPermutation : (xs ys : List Action) → IsPermutation xs ys → total ys ≡ total xs
total-IsPermutation xs ys p =
    total_is ys
    ∙ (λ i. pos (sum_by-IsPermutation raise xs ys p i) -ℤ pos (sum_by-IsPermutation lower xs ys p i))
    ∙ sym (total_is xs)

-- numbers in the range of a counter
pub inside : (n : ℤ) → FitsSigned w64 n → is_outside n ≡ false
inside n h = grind (arith, ints)

pub fits : (n : ℤ) → is_outside n ≡ false → FitsSigned w64 n
fits n h = grind (arith, ints)

-- the distance of two counters isn't beyond what an increment list can have
pub not_beyond : (n a b : ℤ) → FitsSigned w64 n → FitsSigned w64 ((n +ℤ a) +ℤ b) → is_beyond (a +ℤ b) ≡ false
not_beyond n a b h k = grind (arith, ints)

pub sum_is_zero : (s : ℤ) → int_eq s (pos 0) ≡ true → s ≡ pos 0
sum_is_zero s h = (signed_Decides s (pos 0)).0 h

-- the sum of the increments of a split
pub total-split : (s : ℤ) → total (map Increment (split s)) ≡ s
total-split s = at (int_lt (pos 18446744073709551614) s) (int_lt (pos 9223372036854775807) s)
    (int_lt s (negsuc 9223372036854775807)) where
      at : (b c d : Bool) → total (map Increment (cond b
          (pos 9223372036854775807 ∷ pos 9223372036854775807 ∷ (s -ℤ pos 18446744073709551614) ∷ [])
          (cond c (pos 9223372036854775807 ∷ (s -ℤ pos 9223372036854775807) ∷ [])
          (cond d (negsuc 9223372036854775807 ∷ (s +ℤ pos 9223372036854775808) ∷ []) (s ∷ []))))) ≡ s
      at true c d = omega (arith, ints)
      at false true d = omega (arith, ints)
      at false false true = omega (arith, ints)
      at false false false = omega (arith, ints)

pub all-increments : (ns : List ℤ) → list_all (is_of Count) (map Increment ns) ≡ true
all-increments [] = refl
all-increments (n ∷ ns) = all-increments ns

pub some-split : (s : ℤ) → map Increment (split s) ≢ []
some-split s = at (int_lt (pos 18446744073709551614) s) (int_lt (pos 9223372036854775807) s)
    (int_lt s (negsuc 9223372036854775807)) where
      at : (b c d : Bool) → map Increment (cond b
          (pos 9223372036854775807 ∷ pos 9223372036854775807 ∷ (s -ℤ pos 18446744073709551614) ∷ [])
          (cond c (pos 9223372036854775807 ∷ (s -ℤ pos 9223372036854775807) ∷ [])
          (cond d (negsuc 9223372036854775807 ∷ (s +ℤ pos 9223372036854775808) ∷ []) (s ∷ [])))) ≢ []
      at true c d h = cc
      at false true d h = cc
      at false false true h = cc
      at false false false h = cc

-- a value that is a counter is its number
pub counter_is : (v : Value) → is_kind Count v ≡ true → v ≡ values.Plain (Num (number v))
counter_is (values.Plain e) h = by_number (number_in e) refl h where
  by_number : (o : Option ℤ) → number_in e ≡ o → is_some o ≡ true →
      values.Plain e ≡ values.Plain (Num (unwrap_or (number_in e) (pos 0)))
  by_number (Some n) k h = ap values.Plain (number_is e n k ∙ ap (λ o. Num (unwrap_or o (pos 0))) (sym k))
  by_number None k h = cc
counter_is (values.Set s) h = cc
counter_is (values.Bag b) h = cc
