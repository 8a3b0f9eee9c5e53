-- A line of words determines its words.
use Rattle.std.proofs.Common.{◌≡◌, ◌≢◌, ℕ, ◌+◌, ◌%◌, ◌<◌, ◌^◌, List, [], ◌∷◌, ◌++◌, length, refl, sym, ap, ◌∙◌, arith}
use Rattle.std.specs.Prelude.{decimal}
use Rattle.std.specs.Str.Parse.{digits_value}
use Rattle.std.proofs.lemmas.Fmt.{decimal_by_steps, decimal_is_IsNumeral}

-- the separator isn't among them
abbrev pub HasNo : ℕ → List ℕ → Type 0
HasNo c [] = Unit {0}
HasNo c (x ∷ xs) = (x ≢ c) × HasNo c xs

no_both : (c : ℕ) (xs ys : List ℕ) → HasNo c xs → HasNo c ys → HasNo c (xs ++ ys)
no_both c [] ys p q = q
no_both c (x ∷ xs) ys p q = (p.0, no_both c xs ys p.1 q)

-- a number has no byte before the digits
pub no_in_decimal : (c n : ℕ) → c < 48 → n < 2 ^ 64 → HasNo c (decimal n)
no_in_decimal c n low lt = decimal_by_steps (λ _ ds. HasNo c ds) (λ m small. (λ e. absurd (omega arith), tt))
    (λ m ds large h. no_both c ds ((48 + m % 10) ∷ []) h (λ e. absurd (omega arith), tt)) n lt

pub same_decimal : (n m : ℕ) → n < 2 ^ 64 → m < 2 ^ 64 → decimal n ≡ decimal m → n ≡ m
same_decimal n m p q e = sym (decimal_is_IsNumeral n p).1 ∙ ap (digits_value 10) e ∙ (decimal_is_IsNumeral m q).1

-- two texts that are cut at their first separators
pub same_parts : (c : ℕ) (a b x y : List ℕ) → HasNo c a → HasNo c b → a ++ (c ∷ x) ≡ b ++ (c ∷ y) → (a ≡ b) × (x ≡ y)
same_parts c [] [] x y p q e = (refl, cc)
same_parts c [] (b ∷ bs) x y p q e = absurd (q.0 (let h : c ≡ b = cc in sym h))
same_parts c (a ∷ as') [] x y p q e = absurd (p.0 (let h : a ≡ c = cc in h))
same_parts c (a ∷ as') (b ∷ bs) x y p q e =
    let head : a ≡ b = cc in
    let tail : as' ++ (c ∷ x) ≡ bs ++ (c ∷ y) = cc in
    let rest = same_parts c as' bs x y p.1 q.1 tail in
    (let both : as' ≡ bs = rest.0 in cc, rest.1)

-- two texts that are cut at one length
pub same_fronts : (a b x y : List ℕ) → length a ≡ length b → a ++ x ≡ b ++ y → (a ≡ b) × (x ≡ y)
same_fronts [] [] x y l e = (refl, e)
same_fronts [] (b ∷ bs) x y l e = absurd (omega arith)
same_fronts (a ∷ as') [] x y l e = absurd (omega arith)
same_fronts (a ∷ as') (b ∷ bs) x y l e =
    let head : a ≡ b = cc in
    let tail : as' ++ x ≡ bs ++ y = cc in
    let same : length as' ≡ length bs = omega arith in
    let rest = same_fronts as' bs x y same tail in
    (let both : as' ≡ bs = rest.0 in cc, rest.1)

pub same_number : (c n m : ℕ) (x y : List ℕ) → c < 48 → n < 2 ^ 64 → m < 2 ^ 64 →
    decimal n ++ (c ∷ x) ≡ decimal m ++ (c ∷ y) → (n ≡ m) × (x ≡ y)
same_number c n m x y low p q e =
    let parts = same_parts c (decimal n) (decimal m) x y (no_in_decimal c n low p) (no_in_decimal c m low q) e in
    (same_decimal n m p q parts.0, parts.1)
