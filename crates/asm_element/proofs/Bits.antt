-- The bits of a word, as a list.
use Rattle.std.proofs.Common.{◌≡◌, ℕ, zero, suc, ◌+◌, ◌-◌, ◌*◌, ◌/◌, ◌%◌, ◌^◌, ◌<◌, ◌≤◌, List, [], ◌∷◌, ◌++◌, length, get_or, set, take, drop, refl, sym, ap, ◌∙◌, subst, arith}
use Rattle.std.specs.Prelude.{replicate}
use Rattle.std.specs.Int.{bit_at}
use Rattle.std.proofs.lemmas.Nat.Bits.{bit_at_lowest, bit_at-suc, bit_at-zero, bit_at_cat_low, bit_at_cat_high, bit_at-lt}
use Rattle.std.proofs.lemmas.Nat.{div-add-mod', mod_below, pow-add}
use Rattle.std.proofs.Math.Nat.{add-mul, mul-le-mul_right, div-mul-le_self, mod-eq_of_lt}
use Rattle.std.proofs.Math.Pow.{pow-lt, pow_mono, shr_lt}
use Rattle.asm_element.specs.Bits.{bits}

pow_positive : (k : ℕ) → 0 < 2 ^ k
pow_positive k = let h : 2 ^ 0 ≤ 2 ^ k = pow_mono {i = 0} {j = k} (omega arith) in omega (arith, h)

pub length-bits : (n w : ℕ) → length (bits n w) ≡ n
unfolding bits
length-bits zero w = refl
length-bits (suc n) w = ap suc (length-bits n (w / 2))

pub get_or-bits : (n w i : ℕ) → i < n → get_or (bits n w) i 0 ≡ bit_at w i
unfolding bits
get_or-bits zero w i h = absurd (omega (arith, h))
get_or-bits (suc n) w zero h = sym (bit_at_lowest w)
get_or-bits (suc n) w (suc i) h = get_or-bits n (w / 2) i (omega (arith, h)) ∙ sym (bit_at-suc w i)

pub bits-zero : (n : ℕ) → bits n 0 ≡ replicate n 0
unfolding bits
bits-zero zero = refl
bits-zero (suc n) = ap (λ (xs : List ℕ). 0 ∷ xs) (bits-zero n)

head_bit : (v b : ℕ) → bit_at v 0 ≡ b → v % 2 ≡ b
head_bit v b e = sym (bit_at_lowest v) ∙ e

same_head : (v w : ℕ) → bit_at v 0 ≡ bit_at w 0 → v % 2 ≡ w % 2
same_head v w e = sym (bit_at_lowest v) ∙ e ∙ bit_at_lowest w

tail_bit : (v w i j : ℕ) → bit_at v (suc i) ≡ bit_at w (suc j) → bit_at (v / 2) i ≡ bit_at (w / 2) j
tail_bit v w i j e = sym (bit_at-suc v i) ∙ e ∙ bit_at-suc w j

-- words with the same bits below n
pub bits-same : (n v w : ℕ) → ((j : ℕ) → j < n → bit_at v j ≡ bit_at w j) → bits n v ≡ bits n w
unfolding bits
bits-same zero v w h = refl
bits-same (suc n) v w h =
    let front = same_head v w (h 0 (omega arith)) in
    let back = bits-same n (v / 2) (w / 2) (λ j lt. tail_bit v w j j (h (suc j) (omega (arith, lt)))) in
    λ i. front i ∷ back i

-- a word with another bit at one place
pub bits-set : (n v w i b : ℕ) → i < n → bit_at v i ≡ b → ((j : ℕ) → j < n → (j ≡ i → ⊥) → bit_at v j ≡ bit_at w j) → bits n v ≡ set (bits n w) i b
unfolding bits
bits-set zero v w i b lt e h = absurd (omega (arith, lt))
bits-set (suc n) v w zero b lt e h =
    let front = head_bit v b e in
    let back = bits-same n (v / 2) (w / 2) (λ j below. tail_bit v w j j (h (suc j) (omega (arith, below)) (λ (is : suc j ≡ 0). omega (arith, is)))) in
    λ i. front i ∷ back i
bits-set (suc n) v w (suc k) b lt e h =
    let front = same_head v w (h 0 (omega arith) (λ (is : 0 ≡ suc k). omega (arith, is))) in
    let back = bits-set n (v / 2) (w / 2) k b (omega (arith, lt)) (sym (bit_at-suc v k) ∙ e) (λ j below other. tail_bit v w j j (h (suc j) (omega (arith, below)) (λ (is : suc j ≡ suc k). other (omega (arith, is))))) in
    λ i. front i ∷ back i

take-bits : (n w : ℕ) → take n (bits (suc n) w) ≡ bits n w
unfolding bits
take-bits zero w = refl
take-bits (suc n) w = ap (λ (xs : List ℕ). w % 2 ∷ xs) (take-bits n (w / 2))

-- a word with a bit put in at one place, and the bits from there on one higher
pub bits-open : (c r w i n : ℕ) → i ≤ c → ((j : ℕ) → j < i → bit_at r j ≡ bit_at w j) → bit_at r i ≡ n → ((j : ℕ) → i ≤ j → j < c → bit_at r (suc j) ≡ bit_at w j) →
    bits (suc c) r ≡ take i (bits (suc c) w) ++ n ∷ take (c - i) (drop i (bits (suc c) w))
unfolding bits
bits-open c r w zero n le low here high =
    let front = head_bit r n here in
    let back = bits-same c (r / 2) w (λ j lt. sym (bit_at-suc r j) ∙ high j (omega arith) lt) ∙ sym (take-bits c w) in
    let gap : c ≡ c - 0 = omega arith in
    (λ i. front i ∷ back i) ∙ ap (λ (m : ℕ). n ∷ take m (bits (suc c) w)) gap
bits-open zero r w (suc i) n le low here high = absurd (omega (arith, le))
bits-open (suc c) r w (suc i) n le low here high =
    let front = same_head r w (low 0 (omega arith)) in
    let back = bits-open c (r / 2) (w / 2) i n (omega (arith, le)) (λ j lt. tail_bit r w j j (low (suc j) (omega (arith, lt)))) (sym (bit_at-suc r i) ∙ here)
    (λ j from lt. tail_bit r w (suc j) j (high (suc j) (omega (arith, from)) (omega (arith, lt)))) in
    let gap : c - i ≡ suc c - suc i = omega arith in
    (λ k. front k ∷ back k) ∙ ap (λ (m : ℕ). w % 2 ∷ (take i (bits (suc c) (w / 2)) ++ n ∷ take m (drop i (bits (suc c) (w / 2))))) gap

small_bit : (n : ℕ) → n < 2 → bit_at n 0 ≡ n
small_bit zero h = refl
small_bit (suc zero) h = refl
small_bit (suc (suc n)) h = absurd (omega (arith, h))

sub_self : (k : ℕ) → k - k ≡ 0
sub_self k = omega arith

one_less : (k j : ℕ) → k ≤ j → suc j - k - 1 ≡ j - k
one_less k j from = omega (arith, from)

twice : (h n : ℕ) → h + h + n ≡ h * 2 ^ 1 + n
twice h n = omega arith

-- the same of a word whose bits from the place on are h, and those below it low
bits_moved : (r w kept i n h low : ℕ) → i < 64 → n < 2 → low < 2 ^ i → kept ≡ h * 2 ^ i + low → r ≡ (h + h + n) * 2 ^ i + low → ((j : ℕ) → j < 63 → bit_at kept j ≡ bit_at w j) →
    bits 64 r ≡ take i (bits 64 w) ++ n ∷ take (63 - i) (drop i (bits 64 w))
bits_moved r w kept i n h low lt small under is new same =
    bits-open 63 r w i n (omega (arith, lt))
    (λ j below. ap (λ (x : ℕ). bit_at x j) new ∙ bit_at_cat_low (h + h + n) i low j below ∙ sym (bit_at_cat_low h i low j below) ∙ ap (λ (x : ℕ). bit_at x j) (sym is) ∙ same j (omega (arith, below, lt)))
    (ap (λ (x : ℕ). bit_at x i) new ∙ bit_at_cat_high (h + h + n) i low i under (omega arith) ∙ ap (bit_at (h + h + n)) (sub_self i) ∙ ap (λ (x : ℕ). bit_at x 0) (twice h n) ∙ bit_at_cat_low h 1 n 0 (omega arith) ∙ small_bit n small)
    (λ j from below.
    ap (λ (x : ℕ). bit_at x (suc j)) new ∙ bit_at_cat_high (h + h + n) i low (suc j) under (omega (arith, from))
    ∙ ap (λ (x : ℕ). bit_at x (suc j - i)) (twice h n)
    ∙ bit_at_cat_high h 1 n (suc j - i) small (omega (arith, from))
    ∙ ap (bit_at h) (one_less i j from)
    ∙ sym (bit_at_cat_high h i low j under from) ∙ ap (λ (x : ℕ). bit_at x j) (sym is) ∙ same j below)

total : (h n p low kept r : ℕ) → kept ≡ h * p + low → r ≡ kept + h * p + n * p → r ≡ (h + h + n) * p + low
total h n p low kept r is new = let a = add-mul (h + h) n p in let b = add-mul h h p in omega (arith, a, b, is, new)

-- a word without its highest bit has the others
kept_bits : (w j : ℕ) → j < 63 → bit_at (w % 2 ^ 63) j ≡ bit_at w j
kept_bits w j lt = sym (bit_at_cat_low (w / 2 ^ 63) 63 (w % 2 ^ 63) j lt) ∙ ap (λ (x : ℕ). bit_at x j) (div-add-mod' w (2 ^ 63))

-- the word that the code makes
pub bits_opened : (w i n r : ℕ) → i < 64 → n < 2 → r ≡ w % 2 ^ 63 + w % 2 ^ 63 / 2 ^ i * 2 ^ i + n * 2 ^ i → bits 64 r ≡ take i (bits 64 w) ++ n ∷ take (63 - i) (drop i (bits 64 w))
bits_opened w i n r lt small new =
    let kept : ℕ = w % 2 ^ 63 in
    let is : kept ≡ kept / 2 ^ i * 2 ^ i + kept % 2 ^ i = sym (div-add-mod' kept (2 ^ i)) in
    bits_moved r w kept i n (kept / 2 ^ i) (kept % 2 ^ i) lt small (mod_below kept (2 ^ i) (positive i)) is (total (kept / 2 ^ i) n (2 ^ i) (kept % 2 ^ i) kept r is new) (kept_bits w) where
      positive : (k : ℕ) → 0 < 2 ^ k
      positive k = pow_positive k

-- and it fits
pub opened_fits : (w i : ℕ) → i < 64 → w % 2 ^ 63 / 2 ^ i * 2 ^ i + 2 ^ i ≤ 2 ^ 63
opened_fits w i lt =
    let kept : ℕ = w % 2 ^ 63 in
    let j : ℕ = 63 - i in
    let e : j + i ≡ 63 = omega (arith, lt) in
    let below : kept < 2 ^ (j + i) = subst (λ (m : ℕ). kept < 2 ^ m) (sym e) (mod_below w (2 ^ 63) (omega arith)) in
    let h : kept / 2 ^ i < 2 ^ j = shr_lt j i below in
    let more : kept / 2 ^ i + 1 ≤ 2 ^ j = omega (arith, h) in
    let times : (kept / 2 ^ i + 1) * 2 ^ i ≤ 2 ^ j * 2 ^ i = mul-le-mul_right (2 ^ i) more in
    let parts : (kept / 2 ^ i + 1) * 2 ^ i ≡ kept / 2 ^ i * 2 ^ i + 1 * 2 ^ i = add-mul (kept / 2 ^ i) 1 (2 ^ i) in
    let whole : 2 ^ (j + i) ≡ 2 ^ j * 2 ^ i = pow-add 2 j i in
    let is : 2 ^ (j + i) ≡ 2 ^ 63 = ap (λ (m : ℕ). 2 ^ m) e in
    omega (arith, times, parts, whole, is)

pub opened_less : (w i : ℕ) → w % 2 ^ 63 / 2 ^ i * 2 ^ i ≤ w % 2 ^ 63
opened_less w i = div-mul-le_self (w % 2 ^ 63) (2 ^ i)

pub unit : (i : ℕ) → i < 64 → 1 * 2 ^ i % 18446744073709551616 ≡ 2 ^ i
unit i lt = ap (λ (m : ℕ). m % 18446744073709551616) (one_times (2 ^ i)) ∙ mod-eq_of_lt (pow-lt lt) where
  one_times : (m : ℕ) → 1 * m ≡ m
  one_times m = omega arith
