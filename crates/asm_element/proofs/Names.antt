-- The first bytes of names, as the digits of a number, order names as their bytes do.
use Rattle.std.proofs.Common.{◌≡◌, ℕ, ◌<◌, ◌≤◌, zero, suc, List, [], ◌∷◌, length, get_or, refl, ap, sym, ◌∙◌, arith, below_more}
use Rattle.std.specs.Prelude.{true}
use Rattle.std.specs.declared.cmp.Ordering.{Ordering}
use Rattle.std.specs.declared.cmp.Ordering.TheVariants.{Less, Equal, Greater}
use Rattle.std.specs.Ordering.{nat_cmp, ordering_then, MatchOrdering}
use Rattle.std.specs.Cmp.{ranks, nat_cmp_is}
use Rattle.std.specs.Cmp.Lexicographic.{slice_cmp}
use Rattle.std.specs.List.{list_all}
use Rattle.std.proofs.lemmas.Bool.Decides.{nat_tests}
use Rattle.asm_element.specs.Tests.{both}
use Rattle.asm_element.specs.Head.{digits}
use Rattle.asm_element.specs.Place.{is_name, is_name_start, is_name_byte}

-- each is a byte, and none is 0
abbrev pub Plain : List ℕ → Type 0
Plain [] = Unit {0}
Plain (b ∷ bs) = (0 < b) × (b < 256) × Plain bs

-- the first n bytes are the same
abbrev pub Alike : ℕ → List ℕ → List ℕ → Type 0
Alike n xs ys = (k : ℕ) → k < n → get_or xs k 0 ≡ get_or ys k 0

first_byte : (b : ℕ) → is_name_start b ≡ true → (0 < b) × (b < 256)
first_byte b h = grind (arith, nat_tests)

later_byte : (b : ℕ) → is_name_byte b ≡ true → (0 < b) × (b < 256)
later_byte b h = grind (arith, nat_tests)

later_bytes : (bs : List ℕ) → list_all is_name_byte bs ≡ true → Plain bs
later_bytes [] h = tt
later_bytes (b ∷ bs) h =
    let parts = both (is_name_byte b) (list_all is_name_byte bs) h in
    let byte = later_byte b parts.0 in
    (byte.0, byte.1, later_bytes bs parts.1)

-- the bytes of a name are plain
pub plain_name : (bs : List ℕ) → is_name bs ≡ true → Plain bs
plain_name [] h = tt
plain_name (b ∷ bs) h =
    let rest = both (is_name_start b) (list_all is_name_byte bs) (both _ _ h).1 in
    let byte = first_byte b rest.0 in
    (byte.0, byte.1, later_bytes bs rest.1)

byte : (xs : List ℕ) → Plain xs → (k : ℕ) → get_or xs k 0 < 256
byte [] p k = omega arith
byte (x ∷ xs) p zero = p.1
byte (x ∷ xs) p (suc k) = byte xs p.2 k

-- past the end there is 0
past : (n : ℕ) (xs : List ℕ) → length xs ≤ n → get_or xs n 0 ≡ 0
past n [] h = refl
past zero (x ∷ xs) h = absurd (omega (arith, h))
past (suc n) (x ∷ xs) h = past n xs (omega (arith, h))

-- and before it there isn't
within : (n : ℕ) (xs : List ℕ) → Plain xs → n < length xs → 0 < get_or xs n 0
within n [] p h = absurd (omega (arith, h))
within zero (x ∷ xs) p h = p.0
within (suc n) (x ∷ xs) p h = within n xs p.2 (omega (arith, h))

-- where the first n are the same and the next is less, the order is decided
less_at : (n : ℕ) (xs ys : List ℕ) → Alike n xs ys → get_or xs n 0 < get_or ys n 0 → slice_cmp nat_cmp xs ys ≡ Less
less_at n [] [] same less = absurd (omega (arith, less))
less_at n [] (y ∷ ys) same less = refl
less_at n (x ∷ xs) [] same less = absurd (omega (arith, less))
less_at zero (x ∷ xs) (y ∷ ys) same less = ap (λ r. ordering_then r (slice_cmp nat_cmp xs ys)) (sym (nat_cmp_is x y Less less))
less_at (suc n) (x ∷ xs) (y ∷ ys) same less =
    ap (λ r. ordering_then r (slice_cmp nat_cmp xs ys)) (sym (nat_cmp_is x y Equal (same 0 (omega arith))))
    ∙ less_at n xs ys (λ k below. same (suc k) (omega (arith, below))) less

-- the same digits are those of the same bytes
pub alike : (n : ℕ) (xs ys : List ℕ) → Plain xs → Plain ys → digits n xs ≡ digits n ys → Alike n xs ys
alike zero xs ys p q e k below = absurd (omega (arith, below))
alike (suc n) xs ys p q e k below =
    let high : digits n xs ≡ digits n ys = omega (arith, e, byte xs p n, byte ys q n) in
    let low : get_or xs n 0 ≡ get_or ys n 0 = omega (arith, e, byte xs p n, byte ys q n) in
    below_more (λ k. get_or xs k 0 ≡ get_or ys k 0) n (alike n xs ys p q high) low k (omega (arith, below))

-- a smaller number is that of a smaller name
pub digits_less : (n : ℕ) (xs ys : List ℕ) → Plain xs → Plain ys → digits n xs < digits n ys → slice_cmp nat_cmp xs ys ≡ Less
digits_less zero xs ys p q less = absurd (omega (arith, less))
digits_less (suc n) xs ys p q less =
    by_high (digits_less n xs ys p q) (nat_cmp (digits n xs) (digits n ys)) (ranks (digits n xs) (digits n ys)) where
      by_high : (digits n xs < digits n ys → slice_cmp nat_cmp xs ys ≡ Less) → (r : Ordering) →
          MatchOrdering r (digits n xs < digits n ys) (digits n xs ≡ digits n ys) (digits n ys < digits n xs) → slice_cmp nat_cmp xs ys ≡ Less
      by_high sooner Less high = sooner high
      by_high sooner Equal high =
          let level : digits n xs ≡ digits n ys = high in
          less_at n xs ys (alike n xs ys p q high) (omega (arith, level, less))
      by_high sooner Greater high =
          let above : digits n ys < digits n xs = high in
          absurd (omega (arith, above, less, byte xs p n, byte ys q n))

-- a name that ends comes before one that goes on
pub ends_sooner : (n : ℕ) (xs ys : List ℕ) → Plain ys → Alike n xs ys → length xs ≤ n → n < length ys → slice_cmp nat_cmp xs ys ≡ Less
ends_sooner n xs ys q same ends more = less_at n xs ys same (omega (arith, past n xs ends, within n ys q more))

-- names that end within their first n bytes are the same where those are
pub same_name : (n : ℕ) (xs ys : List ℕ) → Plain xs → Plain ys → length xs ≤ n → length ys ≤ n → Alike n xs ys → xs ≡ ys
same_name n [] [] p q left right e = refl
same_name n [] (y ∷ ys) p q left right e = absurd (omega (arith, q.0, right, e 0 (omega (arith, right))))
same_name n (x ∷ xs) [] p q left right e = absurd (omega (arith, p.0, left, e 0 (omega (arith, left))))
same_name zero (x ∷ xs) (y ∷ ys) p q left right e = absurd (omega (arith, left))
same_name (suc n) (x ∷ xs) (y ∷ ys) p q left right e =
    let rest = same_name n xs ys p.2 q.2 (omega (arith, left)) (omega (arith, right)) (λ k below. e (suc k) (omega (arith, below))) in
    λ i. e 0 (omega arith) i ∷ rest i
