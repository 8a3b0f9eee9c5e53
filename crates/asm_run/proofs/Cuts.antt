-- Names, cut at their dashes.
use Rattle.std.proofs.Common.{◌≡◌, ◌≢◌, ⊎_elim, ℕ, suc, ◌+◌, ◌<◌, ◌^◌, List, [], ◌∷◌, ◌++◌, length, refl, sym, ap}
use Rattle.std.proofs.Common.{◌∙◌, subst, arith, lit<, length-append, Option, Some, None}
use Rattle.std.proofs.Common.{true≢false}
use Rattle.std.specs.Prelude.{decimal, slice_index, IsTrue, All}
use Rattle.std.proofs.lemmas.List.Elements.{All-head, All-tail}
use Rattle.std.specs.Char.{digit_value}
use Rattle.std.specs.Str.Parse.{AllDigits, digits_value, IsNumeral, without_leading_plus}
use Rattle.std.specs.Option.{MatchOption}
use Rattle.std.specs.Result.{result_ok}
use Rattle.std.specs.Prelude.{Result, Ok, Err, OkIff, true, false, cond, take, drop, nat_eq, ◌-◌}
use Rattle.std.proofs.lemmas.Int.Digits.{digits_value-lt}
use Rattle.std.proofs.lemmas.Bool.Decides.{eqb_tells, Decides-eqb}
use Rattle.std.proofs.lemmas.Slice.Eq.{strip_suffix_is}
use denote.Ref.{Bor}
use lib.Pointwise.{pointwise}
use Rattle.asm_run.specs.declared.name.SegmentName.{SegmentName}
use Rattle.asm_run.specs.Name.{IsEight, is_hex_digit, IsDigest, IsName, from_first}
use Rattle.asm_run.specs.Name.{from_previous}
use Rattle.asm_run.proofs.Lines.{HasNo, same_parts, same_fronts, same_number, no_in_decimal}

-- the byte isn't among them
abbrev pub IsWithout : ℕ → List ℕ → Type 0
IsWithout c xs = (i : ℕ) → i < length xs → slice_index xs i ≢ c

no_at : (c : ℕ) (xs : List ℕ) → IsWithout c xs → HasNo c xs
no_at c [] h = tt
no_at c (x ∷ xs) h = (h 0 (omega arith), no_at c xs (λ i lt. h (suc i) (omega arith)))

no_dash : (xs : List ℕ) → AllDigits 10 xs → HasNo 45 xs
no_dash [] h = tt
no_dash (x ∷ xs) h = (
  λ e. let d : digit_value x ≡ digit_value 45 = ap digit_value e in
      let lt : digit_value 45 < 10 = subst (λ n. n < 10) d h.0 in absurd (omega arith),
  no_dash xs h.1,
)

dash_among : (c : ℕ) (xs ys : List ℕ) → HasNo c (xs ++ (c ∷ ys)) → ⊥
dash_among c [] ys h = h.0 refl
dash_among c (x ∷ xs) ys h = dash_among c xs ys h.1

pub no_cut : (text xs ys : List ℕ) → IsWithout 45 text → text ≡ xs ++ (45 ∷ ys) → ⊥
no_cut text xs ys h e = dash_among 45 xs ys (subst (HasNo 45) e (no_at 45 text h))

-- the digits before the first dash are those of the number
pub front_is : (text a r front rest : List ℕ) (n : ℕ) → text ≡ a ++ (45 ∷ r) → IsWithout 45 a → IsEight n front →
    text ≡ front ++ (45 ∷ rest) → IsEight n a
front_is text a r front rest n e free is all =
    subst (IsEight n) (sym (same_parts 45 a front r rest (no_at 45 a free) (no_dash front is.digits) (sym e ∙ all)).0)
    is

pub number_is : (text a r rest : List ℕ) (m : ℕ) → m < 2 ^ 64 → text ≡ a ++ (45 ∷ r) → IsWithout 45 a →
    text ≡ decimal m ++ (45 ∷ rest) → a ≡ decimal m
number_is text a r rest m lt e free is = (same_parts 45 a (decimal m) r rest (no_at 45 a free)
    (no_in_decimal 45 m (lit< tt) lt) (sym e ∙ is)).0

-- the same of eight digits, of a number and of a digest that were read
pub same_eight : (text front rest other r : List ℕ) (n m : ℕ) → IsEight n front → text ≡ front ++ (45 ∷ rest) →
    IsEight m other → text ≡ other ++ (45 ∷ r) → rest ≡ r
same_eight text front rest other r n m is e it f = let parts =
    same_fronts front other (45 ∷ rest) (45 ∷ r) (is.eight ∙ sym it.eight) (sym e ∙ f) in
    (let both : 45 ∷ rest ≡ 45 ∷ r = parts.1 in cc)

pub same_counted : (text rest r : List ℕ) (n m : ℕ) → n < 2 ^ 64 → m < 2 ^ 64 → text ≡ decimal n ++ (45 ∷ rest) →
    text ≡ decimal m ++ (45 ∷ r) → rest ≡ r
same_counted text rest r n m p q e f = (same_number 45 n m rest r (lit< tt) p q (sym e ∙ f)).1

pub same_cut : (text d rest other r : List ℕ) → IsDigest d → text ≡ d ++ (45 ∷ rest) → IsDigest other →
    text ≡ other ++ (45 ∷ r) → (d ≡ other) × (rest ≡ r)
same_cut text d rest other r is e it f = let parts = same_fronts d other (45 ∷ rest) (45 ∷ r) (is.size ∙ sym it.size)
    (sym e ∙ f) in (parts.0, (let both : 45 ∷ rest ≡ 45 ∷ r = parts.1 in cc))

pub if_some : {T : Type 0} (P : Type 0) (Q : T → Type 0) (o : Option T) → MatchOption o P Q →
    MatchOption o (Unit {0}) Q
if_some P Q None h = tt
if_some P Q (Some x) h = h

pub if_none : {T : Type 0} (P : Type 0) (Q : T → Type 0) (o : Option T) → o ≡ None → MatchOption o P Q → P
if_none P Q None e h = h
if_none P Q (Some x) e h = absurd (let d : ⊥ = cc in d)

-- what isn't read as a number is none
pub not_read : {E : Type 0} (P : Type 0) (v : ℕ) (r : Result ℕ E) → result_ok r ≡ None → OkIff r P v → P → ⊥
not_read P v (Ok x) e h p = cc
not_read P v (Err x) e h p = h p

-- eight digits are a numeral below 2 ^ 64, without a sign
pub is_numeral : (text : List ℕ) (n : ℕ) → IsEight n text →
    IsNumeral 10 (without_leading_plus text) × (digits_value 10 (without_leading_plus text) < 2 ^ 64)
is_numeral text n is = subst (λ t. IsNumeral 10 t × (digits_value 10 t < 2 ^ 64))
    (sym (no_plus text is.digits is.eight)) (((let e = is.eight in omega arith), is.digits), small)
  where
    no_plus : (t : List ℕ) → AllDigits 10 t → length t ≡ 8 → without_leading_plus t ≡ t
    no_plus [] d e = absurd (omega arith)
    no_plus (x ∷ xs) d e = ⊎_elim
        (λ same. let v : digit_value x ≡ digit_value 43 = ap digit_value same.1 in
        let lt : digit_value 43 < 10 = subst (λ m. m < 10) v d.0 in absurd (omega arith))
        (λ other. ap (λ b. drop (cond b 1 0) (x ∷ xs)) other.0) (eqb_tells x 43)

    small : digits_value 10 text < 2 ^ 64
    small = let lt : digits_value 10 text < 10 ^ length text =
        digits_value-lt 10 text is.digits in let at : digits_value 10 text < 10 ^ 8 =
        subst (λ k. digits_value 10 text < 10 ^ k) is.eight lt in omega (arith, at)

abbrev pub journal : List ℕ
journal = 46 ∷ 106 ∷ 111 ∷ 117 ∷ 114 ∷ 110 ∷ 97 ∷ 108 ∷ []

pub no_suffix : (s digest : List ℕ) → pointwise nat_eq (drop (length s - 8) s) journal ≡ false →
    s ≡ digest ++ journal → ⊥
no_suffix s digest h e = strip_suffix_is Decides-eqb s journal None h digest e

pub suffix : (s : List ℕ) (x : Bor (List ℕ)) → (pointwise nat_eq (drop (length s - 8) s) journal ≡ true) ×
    (x.now ≡ take (length s - 8) s) × (length x.now + 8 ≡ length s) → s ≡ x.now ++ journal
suffix s x h = strip_suffix_is Decides-eqb s journal (Some x) h

pub same_digest : (s a b : List ℕ) → s ≡ a ++ journal → s ≡ b ++ journal → a ≡ b
same_digest s a b e f = (same_fronts a b journal journal
    (let h : length s ≡ length (a ++ journal) = ap length e in
    let k : length s ≡ length (b ++ journal) = ap length f in
    omega (arith, length-append a journal, length-append b journal)) (sym e ∙ f)).0

-- no digit is a dash, so that the first dash is behind the digest
no_dash_digit : (b : ℕ) → IsTrue (is_hex_digit b) → b ≢ 45
no_dash_digit b h e = let no : IsTrue (is_hex_digit 45) =
    subst (λ x. IsTrue (is_hex_digit x)) e h in absurd (let f : false ≡ true = no in true≢false (sym f))

no_dash_in : (d : List ℕ) → All (λ b. IsTrue (is_hex_digit b)) d → HasNo 45 d
no_dash_in [] h = tt
no_dash_in (x ∷ d) h = (
  no_dash_digit x (All-head (λ b. IsTrue (is_hex_digit b)) x d h),
  no_dash_in d
      (All-tail (λ b. IsTrue (is_hex_digit b)) x d h),
)

pub digest_is : (text a r d rest : List ℕ) → text ≡ a ++ (45 ∷ r) → IsWithout 45 a → IsDigest d →
    text ≡ d ++ (45 ∷ rest) → a ≡ d
digest_is text a r d rest e free is all = (same_parts 45 a d r rest (no_at 45 a free) (no_dash_in d is.digits)
    (sym e ∙ all)).0

pub whole : (text front a b c d e : List ℕ) (n : SegmentName) → IsEight n.number front → text ≡ front ++ (45 ∷ a) →
    a ≡ decimal n.first ++ (45 ∷ b) → b ≡ decimal n.moves ++ (45 ∷ c) → c ≡ decimal n.events ++ (45 ∷ d) →
    IsDigest n.previous → d ≡ n.previous ++ (45 ∷ e) → IsDigest n.digest → e ≡ n.digest ++ journal → IsName text n
whole text front a b c d e n number e0 e1 e2 e3 previous e4 digest e5 = record {
  front = front;
  number = number;
  previous = previous;
  digest = digest;
  all = e0 ∙ ap (λ (z : List ℕ). front ++ (45 ∷ z)) (e1 ∙
      ap (λ (z : List ℕ). decimal n.first ++ (45 ∷ z))
      (e2 ∙ ap (λ (z : List ℕ). decimal n.moves ++ (45 ∷ z))
      (e3 ∙ ap (λ (z : List ℕ). decimal n.events ++ (45 ∷ z))
      (e4 ∙ ap (λ (z : List ℕ). n.previous ++ (45 ∷ z)) e5))));
}

-- a number with eight digits
pub eight_few : (text : List ℕ) (n : ℕ) → IsEight n text → n < 100000000
eight_few text n is = let lt : digits_value 10 text < 10 ^ length text =
    digits_value-lt 10 text is.digits in let at : digits_value 10 text < 10 ^ 8 =
    subst (λ k. digits_value 10 text < 10 ^ k) is.eight lt in let same = is.number in omega (arith, at)

pub same_name : (n m : SegmentName) → n.number ≡ m.number → n.first ≡ m.first → n.moves ≡ m.moves →
    n.events ≡ m.events → n.previous ≡ m.previous → n.digest ≡ m.digest → n ≡ m
same_name n m a b c d e f =
    ap (λ (x : ℕ). made x n.first n.moves n.events n.previous n.digest) a ∙
    ap (λ (x : ℕ). made m.number x n.moves n.events n.previous n.digest) b
    ∙ ap (λ (x : ℕ). made m.number m.first x n.events n.previous n.digest) c ∙
    ap (λ (x : ℕ). made m.number m.first m.moves x n.previous n.digest) d
    ∙ ap (λ (x : List ℕ). made m.number m.first m.moves m.events x n.digest) e ∙
    ap (λ (x : List ℕ). made m.number m.first m.moves m.events m.previous x) f
  where
    made : ℕ → ℕ → ℕ → ℕ → List ℕ → List ℕ → SegmentName
    made number first moves events previous digest = record {
      number = number;
      first = first;
      moves = moves;
      events = events;
      previous = previous;
      digest = digest;
    }

-- a text is the name of one segment at most
pub one_name : (text : List ℕ) (n m : SegmentName) → n.first < 2 ^ 64 → m.first < 2 ^ 64 → n.moves < 2 ^ 64 →
    m.moves < 2 ^ 64 → n.events < 2 ^ 64 → m.events < 2 ^ 64 → IsName text n → IsName text m → n ≡ m
one_name text n m a b c d e f is other =
    let parts = same_fronts is.front other.front (45 ∷ from_first n) (45 ∷ from_first m)
    (is.number.eight ∙ sym other.number.eight) (sym is.all ∙ other.all) in
    let rest : from_first n ≡ from_first m = (let both : 45 ∷ from_first n ≡ 45 ∷ from_first m = parts.1 in cc) in
    let first = same_number 45 n.first m.first _ _ (lit< tt) a b rest in
    let moves = same_number 45 n.moves m.moves _ _ (lit< tt) c d first.1 in
    let events = same_number 45 n.events m.events _ _ (lit< tt) e f moves.1 in
    let previous = same_cut (from_previous n) n.previous (n.digest ++ journal) m.previous
    (m.digest ++ journal) is.previous refl other.previous events.1 in
    let digest = same_fronts n.digest m.digest journal journal (is.digest.size ∙ sym other.digest.size) previous.1 in
    same_name n m (sym is.number.number ∙ ap (digits_value 10) parts.0 ∙
    other.number.number) first.0 moves.0 events.0 previous.0 digest.0
