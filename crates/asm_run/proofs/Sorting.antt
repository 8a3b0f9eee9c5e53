-- Names in the order of their numbers.
use Rattle.std.proofs.Common.{◌≡◌, ⊎_elim, ℕ, ◌+◌, ◌*◌, ◌-◌, ◌<◌, ◌≤◌, Bool, true, false, cond, List, [], ◌∷◌, ◌++◌}
use Rattle.std.proofs.Common.{length, refl, sym, ap, ◌∙◌, subst₂, lt_irrefl, arith, ltb-false, ltb-true, lt-ltb, subst}
use Rattle.std.specs.Prelude.{nat_lt, nat_eq}
use Rattle.std.specs.Char.{digit_value}
use Rattle.std.specs.Cmp.Lexicographic.{slice_cmp}
use Rattle.std.specs.Ordering.{nat_cmp, ordering_then}
use Rattle.std.specs.Str.Parse.{AllDigits, digits_value_after}
use Rattle.std.specs.declared.cmp.Ordering.{Ordering}
use Rattle.std.specs.declared.cmp.Ordering.TheVariants.{Less, Equal, Greater}
use Rattle.std.proofs.lemmas.Bool.{cases_lt}
use Rattle.std.proofs.lemmas.Bool.Decides.{eqb_tells}
use Rattle.asm_run.specs.Name.{SortByNumber}

-- a byte whose value is below ten is that digit
digit_is : (c : ℕ) → digit_value c < 10 → c ≡ 48 + digit_value c
digit_is c small =
    by (nat_lt c 48) (nat_lt c 58) (nat_lt c 65) (nat_lt c 91) (nat_lt c 97) (nat_lt c 123) refl refl refl small
  where
    by : (a b d e f g : Bool) → nat_lt c 48 ≡ a → nat_lt c 65 ≡ d → nat_lt c 97 ≡ f →
        cond a 36 (cond b (c - 48) (cond d 36 (cond e (c - 55) (cond f 36 (cond g (c - 87) 36))))) < 10 →
        c ≡ 48 + cond a 36 (cond b (c - 48) (cond d 36 (cond e (c - 55) (cond f 36 (cond g (c - 87) 36)))))
    by true b d e f g p q r h = absurd (omega arith)
    by false true d e f g p q r h = let low : 48 ≤ c = ltb-false c 48 p in omega arith
    by false false true e f g p q r h = absurd (omega arith)
    by false false false true f g p q r h = let low : 65 ≤ c = ltb-false c 65 q in absurd (omega arith)
    by false false false false true g p q r h = absurd (omega arith)
    by false false false false false true p q r h = let low : 97 ≤ c = ltb-false c 97 r in absurd (omega arith)
    by false false false false false false p q r h = absurd (omega arith)

-- digits behind a smaller number write a smaller one
below : (xs ys : List ℕ) (p q : ℕ) → length xs ≡ length ys → AllDigits 10 xs → p < q →
    digits_value_after 10 p xs < digits_value_after 10 q ys
below [] [] p q e d lt = lt
below [] (y ∷ ys) p q e d lt = absurd (omega arith)
below (x ∷ xs) [] p q e d lt = absurd (omega arith)
below (x ∷ xs) (y ∷ ys) p q e d lt =
    let less : p * 10 + digit_value x < q * 10 + digit_value y = (let small = d.0 in omega arith) in
    below xs ys (p * 10 + digit_value x) (q * 10 + digit_value y) (omega arith) d.1 less

cmp_less : (x y : ℕ) → x < y → nat_cmp x y ≡ Less
cmp_less x y lt = ap (λ t. cond t Less (cond (nat_eq x y) Equal Greater)) (lt-ltb x y lt)

cmp_equal : (x : ℕ) → nat_cmp x x ≡ Equal
cmp_equal x = by (nat_lt x x) refl
  where
    by : (t : Bool) → nat_lt x x ≡ t → cond t Less (cond (nat_eq x x) Equal Greater) ≡ Equal
    by true e = absurd (lt_irrefl x (ltb-true x x e))
    by false e = ⊎_elim (λ same. ap (λ t. cond t Equal Greater) same.0) (λ other. absurd (other.1 refl)) (eqb_tells x x)

-- as many digits that write a smaller number come first
sorts : (xs ys a b : List ℕ) (p : ℕ) → length xs ≡ length ys → AllDigits 10 xs → AllDigits 10 ys →
    digits_value_after 10 p xs < digits_value_after 10 p ys → slice_cmp nat_cmp (xs ++ a) (ys ++ b) ≡ Less
sorts [] [] a b p e d f lt = absurd (lt_irrefl p lt)
sorts [] (y ∷ ys) a b p e d f lt = absurd (omega arith)
sorts (x ∷ xs) [] a b p e d f lt = absurd (omega arith)
sorts (x ∷ xs) (y ∷ ys) a b p e d f lt =
    ⊎_elim
    (λ less. ap (λ (o : Ordering). ordering_then o (slice_cmp nat_cmp (xs ++ a) (ys ++ b))) (cmp_less x y less))
    (λ le. ⊎_elim (λ more. absurd (never more)) (λ ge. same (let eq : x ≡ y = omega arith in eq)
    (λ values. sorts xs ys a b (p * 10 + digit_value x) rest d.1 f.1 values)) (cases_lt y x))
    (cases_lt x y)
  where
    rest : length xs ≡ length ys
    rest = omega arith

    never : y < x → ⊥
    never more =
        let first : x ≡ 48 + digit_value x = digit_is x d.0 in
        let second : y ≡ 48 + digit_value y = digit_is y f.0 in
        let less : p * 10 + digit_value y < p * 10 + digit_value x = omega arith in
        let back = below ys xs (p * 10 + digit_value y) (p * 10 + digit_value x) (sym rest) f.1 less in
        omega arith

    same : x ≡ y →
        (digits_value_after 10 (p * 10 + digit_value x) xs < digits_value_after 10 (p * 10 + digit_value x) ys →
        slice_cmp nat_cmp (xs ++ a) (ys ++ b) ≡ Less) → slice_cmp nat_cmp ((x ∷ xs) ++ a) ((y ∷ ys) ++ b) ≡ Less
    same eq again =
        let values : digits_value_after 10 (p * 10 + digit_value x) xs < digits_value_after 10 (p * 10 + digit_value x) ys =
        subst (λ (z : ℕ). digits_value_after 10 (p * 10 + digit_value x) xs < digits_value_after 10 (p * 10 + digit_value z) ys) (sym eq) lt in
        let equal : nat_cmp x y ≡ Equal = subst (λ (z : ℕ). nat_cmp x z ≡ Equal) eq (cmp_equal x) in
        ap (λ (o : Ordering). ordering_then o (slice_cmp nat_cmp (xs ++ a) (ys ++ b))) equal
        ∙ again values

pub sort_by_number : SortByNumber
sort_by_number s t n m is it lt =
    let first = is.number.number in
    let second = it.number.number in
    subst₂ (λ (x y : List ℕ). slice_cmp nat_cmp x y ≡ Less) (sym is.all) (sym it.all)
    (sorts is.front it.front _ _ 0 (is.number.eight ∙ sym it.number.eight) is.number.digits it.number.digits (omega arith))
