-- The head and the number of a location refine the order of locations.
use Rattle.std.proofs.Common.{◌≡◌, ◌≢◌, ℕ, ℤ, pos, ◌%◌, ◌<◌, ◌≤◌, List, [], ◌∷◌, length, refl, ap, sym, ◌∙◌, arith, w64, of_z, to_z}
use Rattle.std.specs.Prelude.{Bool, true, false, cond, nat_le, ◌==◌, All, FitsSigned as SFits}
use Rattle.std.proofs.Math.Facts.{to_z-of_z}
use Rattle.std.specs.declared.cmp.Ordering.{Ordering}
use Rattle.std.specs.declared.cmp.Ordering.TheVariants.{Less, Equal, Greater}
use Rattle.std.specs.Ordering.{nat_cmp, int_cmp, on, then_cmp, ordering_then, ordering_reverse, MatchOrdering}
use Rattle.std.specs.Cmp.{ranks, nat_cmp_is, tied_itself}
use Rattle.std.specs.Cmp.Lexicographic.{slice_cmp, nat_list_cmp_total}
use Rattle.std.specs.FinMap.{nat_cmp-IsAntisymmetric, int_cmp-IsAntisymmetric}
use Rattle.std.proofs.lemmas.Bool.{leb-true, leb-false, ltb-true}
use Rattle.asm_element.specs.declared.element.Element.{Element}
use Rattle.asm_element.specs.declared.element.Element.TheVariants.{Undef, Bool as Truth, Num, Text, List as Inner}
use Rattle.asm_element.specs.Datum.{Datum, undef, truth, number, text, list, rank}
use Rattle.asm_element.specs.View.{datum}
use Rattle.asm_element.specs.Element as element
use Rattle.asm_element.specs.Element.{element_cmp}
use Rattle.asm_element.specs.Place.{Place, IsProper, location_cmp, location_cmp_total}
use Rattle.asm_element.specs.Head.{digits, first_rank, first_number, decided, args_byte, place_head, place_number, last_byte}
use Rattle.asm_element.proofs.Names.{Alike, plain_name, alike, digits_less, ends_sooner, same_name}

-- ---- answers

-- where the first answer decides, the second is the same
abbrev Refines : Ordering → Ordering → Type 0
Refines a x = x ≡ ordering_then a x

refines_itself : (a : Ordering) → Refines a a
refines_itself Less = refl
refines_itself Equal = refl
refines_itself Greater = refl

refines_then : (a b c : Ordering) → Refines a b → Refines a (ordering_then b c)
refines_then Less b c h = ap (λ r. ordering_then r c) h
refines_then Equal b c h = refl
refines_then Greater b c h = ap (λ r. ordering_then r c) h

decides : (a x : Ordering) → Refines a x → (a ≡ Equal → ⊥) → a ≡ x
decides Less x h apart = sym h
decides Equal x h apart = absurd (apart refl)
decides Greater x h apart = sym h

-- ---- arguments

abbrev args_cmp : List Element → List Element → Ordering
args_cmp = then_cmp (on length nat_cmp) (slice_cmp element_cmp)

rank_le : (d : Datum) → rank d ≤ 5
rank_le undef = omega arith
rank_le (truth false) = omega arith
rank_le (truth true) = omega arith
rank_le (number n) = omega arith
rank_le (text s) = omega arith
rank_le (list ds) = omega arith

first_rank_le : (xs : List Element) → first_rank xs ≤ 5
first_rank_le [] = omega arith
first_rank_le (x ∷ xs) = rank_le (datum x)

bit_le : (b : Bool) → cond b 1 0 ≤ 1
bit_le true = omega arith
bit_le false = omega arith

decided_le : (xs : List Element) → decided xs ≤ 1
decided_le [] = omega arith
decided_le (x ∷ []) = bit_le (nat_le (rank (datum x)) 3)
decided_le (x ∷ y ∷ xs) = omega arith

-- elements compare by rank
by_rank : (x y : Element) → Refines (nat_cmp (rank (datum x)) (rank (datum y))) (element_cmp x y)
by_rank (Truth false) (Truth false) = refl
by_rank (Truth false) (Truth true) = refl
by_rank (Truth true) (Truth false) = refl
by_rank (Truth true) (Truth true) = refl
by_rank (Truth false) y = refl
by_rank (Truth true) y = refl
by_rank x (Truth false) = refl
by_rank x (Truth true) = refl
by_rank x y = refl

-- and those of one rank by number
by_number : (x y : Element) (xs ys : List Element) → rank (datum x) ≡ rank (datum y) →
    Refines (int_cmp (first_number (x ∷ xs)) (first_number (y ∷ ys))) (element_cmp x y)
by_number (Num m) (Num n) xs ys e = refines_itself (int_cmp m n)
by_number (Num m) Undef xs ys e = absurd (omega (arith, e))
by_number (Num m) (Truth false) xs ys e = absurd (omega (arith, e))
by_number (Num m) (Truth true) xs ys e = absurd (omega (arith, e))
by_number (Num m) (Text t) xs ys e = absurd (omega (arith, e))
by_number (Num m) (Inner es) xs ys e = absurd (omega (arith, e))
by_number Undef (Num n) xs ys e = absurd (omega (arith, e))
by_number (Truth false) (Num n) xs ys e = absurd (omega (arith, e))
by_number (Truth true) (Num n) xs ys e = absurd (omega (arith, e))
by_number (Text s) (Num n) xs ys e = absurd (omega (arith, e))
by_number (Inner ds) (Num n) xs ys e = absurd (omega (arith, e))
by_number x y xs ys e = refl

-- the element of a rank up to that of numbers
abbrev ranked : ℕ → ℤ → Element
ranked r n = cond (r == 0) Undef (cond (r == 1) (Truth false) (cond (r == 2) (Truth true) (Num n)))

ranked_is : (x : Element) → decided (x ∷ []) ≡ 1 → ranked (rank (datum x)) (first_number (x ∷ [])) ≡ x
ranked_is Undef h = refl
ranked_is (Truth false) h = refl
ranked_is (Truth true) h = refl
ranked_is (Num n) h = refl
ranked_is (Text s) h = absurd (omega (arith, h))
ranked_is (Inner ds) h = absurd (omega (arith, h))

same_decided : (xs ys : List Element) → length xs ≡ length ys → first_rank xs ≡ first_rank ys → decided xs ≡ decided ys
same_decided [] [] e r = refl
same_decided [] (y ∷ ys) e r = absurd (omega (arith, e))
same_decided (x ∷ xs) [] e r = absurd (omega (arith, e))
same_decided (x ∷ []) (y ∷ []) e r = ap (λ n. cond (nat_le n 3) 1 0) r
same_decided (x ∷ []) (y ∷ w ∷ ys) e r = absurd (omega (arith, e))
same_decided (x ∷ v ∷ xs) (y ∷ []) e r = absurd (omega (arith, e))
same_decided (x ∷ v ∷ xs) (y ∷ w ∷ ys) e r = refl

-- arguments of one length compare by the first one's rank
rank_less : (xs ys : List Element) → length xs ≡ length ys → first_rank xs < first_rank ys → slice_cmp element_cmp xs ys ≡ Less
rank_less [] [] e less = absurd (omega (arith, less))
rank_less [] (y ∷ ys) e less = absurd (omega (arith, e))
rank_less (x ∷ xs) [] e less = absurd (omega (arith, e))
rank_less (x ∷ xs) (y ∷ ys) e less =
    let tells = by_rank x y ∙ ap (λ r. ordering_then r (element_cmp x y)) (sym (nat_cmp_is (rank (datum x)) (rank (datum y)) Less less)) in
    ap (λ r. ordering_then r (slice_cmp element_cmp xs ys)) tells

-- a smaller byte is that of smaller arguments
byte_less : (xs ys : List Element) → args_byte xs < args_byte ys → args_cmp xs ys ≡ Less
byte_less xs ys less = by (nat_cmp (length xs) (length ys)) (ranks (length xs) (length ys)) where
  within : first_rank xs ≤ 5
  within = first_rank_le xs

  without : first_rank ys ≤ 5
  without = first_rank_le ys

  by_ranks : length xs ≡ length ys → (r : Ordering) → MatchOrdering r (first_rank xs < first_rank ys) (first_rank xs ≡ first_rank ys) (first_rank ys < first_rank xs) →
      slice_cmp element_cmp xs ys ≡ Less
  by_ranks e Less h = rank_less xs ys e h
  by_ranks e Equal h =
      let level : first_rank xs ≡ first_rank ys = h in
      absurd (omega (arith, less, e, level, same_decided xs ys e level))
  by_ranks e Greater h =
      let above : first_rank ys < first_rank xs = h in
      absurd (omega (arith, less, e, above, decided_le xs, decided_le ys))

  by : (r : Ordering) → MatchOrdering r (length xs < length ys) (length xs ≡ length ys) (length ys < length xs) → ordering_then r (slice_cmp element_cmp xs ys) ≡ Less
  by Less h = refl
  by Equal h = by_ranks h (nat_cmp (first_rank xs) (first_rank ys)) (ranks (first_rank xs) (first_rank ys))
  by Greater h =
      let above : length ys < length xs = h in
      absurd (omega (arith, less, above, within, without, decided_le xs, decided_le ys))

-- arguments of one byte have one length, and their first ones have one rank
same_length : (xs ys : List Element) → args_byte xs ≡ args_byte ys → length xs ≡ length ys
same_length xs ys e = omega (arith, e, first_rank_le xs, first_rank_le ys, decided_le xs, decided_le ys)

same_rank : (xs ys : List Element) → args_byte xs ≡ args_byte ys → first_rank xs ≡ first_rank ys
same_rank xs ys e = omega (arith, e, first_rank_le xs, first_rank_le ys, decided_le xs, decided_le ys)

-- they compare by the first one's number
number_refines : (xs ys : List Element) → length xs ≡ length ys → first_rank xs ≡ first_rank ys →
    Refines (int_cmp (first_number xs) (first_number ys)) (slice_cmp element_cmp xs ys)
number_refines [] [] e r = refl
number_refines [] (y ∷ ys) e r = absurd (omega (arith, e))
number_refines (x ∷ xs) [] e r = absurd (omega (arith, e))
number_refines (x ∷ xs) (y ∷ ys) e r =
    refines_then (int_cmp (first_number (x ∷ xs)) (first_number (y ∷ ys))) (element_cmp x y) (slice_cmp element_cmp xs ys) (by_number x y xs ys r)

-- and where they are decided, they are the same if the numbers are
same_args : (xs ys : List Element) → length xs ≡ length ys → first_rank xs ≡ first_rank ys → first_number xs ≡ first_number ys → decided xs ≡ 1 → xs ≡ ys
same_args [] [] e r n h = refl
same_args [] (y ∷ ys) e r n h = absurd (omega (arith, e))
same_args (x ∷ xs) [] e r n h = absurd (omega (arith, e))
same_args (x ∷ []) (y ∷ []) e r n h =
    let same : x ≡ y = sym (ranked_is x h) ∙ (λ i. ranked (r i) (n i)) ∙ ranked_is y (ap (λ n. cond (nat_le n 3) 1 0) (sym r) ∙ h) in
    ap (λ z. z ∷ []) same
same_args (x ∷ []) (y ∷ w ∷ ys) e r n h = absurd (omega (arith, e))
same_args (x ∷ v ∷ xs) ys e r n h = absurd (omega (arith, h))

-- the first one's number is in the range of i64
fits : (xs : List Element) → All element.IsProper xs → SFits w64 (first_number xs)
fits [] p = record { sfits = ltb-true _ _ refl }
fits (Num n ∷ xs) p = p 0 Undef (omega arith)
fits (Undef ∷ xs) p = record { sfits = ltb-true _ _ refl }
fits (Truth b ∷ xs) p = record { sfits = ltb-true _ _ refl }
fits (Text s ∷ xs) p = record { sfits = ltb-true _ _ refl }
fits (Inner ds ∷ xs) p = record { sfits = ltb-true _ _ refl }

-- ---- locations

number_fits : (l : Place) → IsProper l → SFits w64 (place_number l)
number_fits l p = by (nat_le (length l.name) 7) where
  by : (b : Bool) → SFits w64 (cond b (first_number l.args) (pos 0))
  by true = fits l.args p.2
  by false = record { sfits = ltb-true _ _ refl }

is_short : (n : ℕ) → nat_le n 7 ≡ true → n ≤ 7
is_short n h = leb-true n 7 h

is_long : (n : ℕ) → nat_le n 7 ≡ false → 7 < n
is_long n h = leb-false n 7 h

args_byte_le : (l : Place) → IsProper l → args_byte l.args ≤ 139
args_byte_le l p = omega (arith, p.1, first_rank_le l.args, decided_le l.args)

last_byte_le : (l : Place) → IsProper l → last_byte l ≤ 254
last_byte_le l p = by (nat_le (length l.name) 7) where
  by : (b : Bool) → cond b (args_byte l.args) 254 ≤ 254
  by true = omega (arith, args_byte_le l p)
  by false = omega arith

module _ (k l : Place) (left : IsProper k) (right : IsProper l) where
  -- numbers of the same bits are the same
  pub same_number : of_z w64 (place_number k) ≡ of_z w64 (place_number l) → place_number k ≡ place_number l
  same_number e = sym (to_z-of_z {w = w64} (number_fits k left)) ∙ ap (to_z w64) e ∙ to_z-of_z {w = w64} (number_fits l right)

  first_alike : digits 7 k.name ≡ digits 7 l.name → Alike 7 k.name l.name
  first_alike e = alike 7 k.name l.name (plain_name k.name left.0) (plain_name l.name right.0) e

  one_name : digits 7 k.name ≡ digits 7 l.name → nat_le (length k.name) 7 ≡ true → nat_le (length l.name) 7 ≡ true → k.name ≡ l.name
  one_name e s t =
      same_name 7 k.name l.name (plain_name k.name left.0) (plain_name l.name right.0) (is_short (length k.name) s) (is_short (length l.name) t) (first_alike e)

  -- locations with one name compare by their arguments
  by_args : k.name ≡ l.name → location_cmp k l ≡ args_cmp k.args l.args
  by_args e = ap (λ r. ordering_then r (args_cmp k.args l.args)) (ap (slice_cmp nat_cmp k.name) (sym e) ∙ tied_itself nat_list_cmp_total k.name)

  -- and where a name is smaller, so is the location
  by_name : slice_cmp nat_cmp k.name l.name ≡ Less → location_cmp k l ≡ Less
  by_name e = ap (λ r. ordering_then r (args_cmp k.args l.args)) e

  last_less : digits 7 k.name ≡ digits 7 l.name → (s t : Bool) → nat_le (length k.name) 7 ≡ s → nat_le (length l.name) 7 ≡ t →
      cond s (args_byte k.args) 254 < cond t (args_byte l.args) 254 → location_cmp k l ≡ Less
  last_less e true true s t less = by_args (one_name e s t) ∙ byte_less k.args l.args less
  last_less e true false s t less =
      by_name (ends_sooner 7 k.name l.name (plain_name l.name right.0) (first_alike e) (is_short (length k.name) s) (is_long (length l.name) t))
  last_less e false true s t less = absurd (omega (arith, less, args_byte_le l right))
  last_less e false false s t less = absurd (omega (arith, less))

  -- a smaller head is that of a smaller location
  head_less : place_head k < place_head l → location_cmp k l ≡ Less
  head_less less = by (nat_cmp (digits 7 k.name) (digits 7 l.name)) (ranks (digits 7 k.name) (digits 7 l.name)) where
    by : (r : Ordering) → MatchOrdering r (digits 7 k.name < digits 7 l.name) (digits 7 k.name ≡ digits 7 l.name) (digits 7 l.name < digits 7 k.name) →
        location_cmp k l ≡ Less
    by Less h = by_name (digits_less 7 k.name l.name (plain_name k.name left.0) (plain_name l.name right.0) h)
    by Equal h =
        let level : digits 7 k.name ≡ digits 7 l.name = h in
        let last : last_byte k < last_byte l = omega (arith, less, level) in
        last_less level (nat_le (length k.name) 7) (nat_le (length l.name) 7) refl refl last
    by Greater h =
        let above : digits 7 l.name < digits 7 k.name = h in
        absurd (omega (arith, less, above, last_byte_le k left, last_byte_le l right))

  -- locations of one head have the same first bytes and the same last byte
  one_start : place_head k ≡ place_head l → digits 7 k.name ≡ digits 7 l.name
  one_start e = omega (arith, e, last_byte_le k left, last_byte_le l right)

  one_last : place_head k ≡ place_head l → last_byte k ≡ last_byte l
  one_last e = omega (arith, e, last_byte_le k left, last_byte_le l right)

  last_number : digits 7 k.name ≡ digits 7 l.name → (s t : Bool) → nat_le (length k.name) 7 ≡ s → nat_le (length l.name) 7 ≡ t →
      cond s (args_byte k.args) 254 ≡ cond t (args_byte l.args) 254 →
      Refines (int_cmp (cond s (first_number k.args) (pos 0)) (cond t (first_number l.args) (pos 0))) (location_cmp k l)
  last_number e true true s t same =
      let lengths = same_length k.args l.args same in
      let tied : nat_cmp (length k.args) (length l.args) ≡ Equal = sym (nat_cmp_is (length k.args) (length l.args) Equal lengths) in
      let whole : location_cmp k l ≡ slice_cmp element_cmp k.args l.args = by_args (one_name e s t) ∙ ap (λ r. ordering_then r (slice_cmp element_cmp k.args l.args)) tied in
      whole ∙ number_refines k.args l.args lengths (same_rank k.args l.args same)
      ∙ ap (ordering_then (int_cmp (first_number k.args) (first_number l.args))) (sym whole)
  last_number e true false s t same = absurd (omega (arith, same, args_byte_le k left))
  last_number e false true s t same = absurd (omega (arith, same, args_byte_le l right))
  last_number e false false s t same = refl

  -- numbers decide where heads don't
  numbers : place_head k ≡ place_head l → Refines (int_cmp (place_number k) (place_number l)) (location_cmp k l)
  numbers e = last_number (one_start e) (nat_le (length k.name) 7) (nat_le (length l.name) 7) refl refl (one_last e)

  last_same : digits 7 k.name ≡ digits 7 l.name → (s t : Bool) → nat_le (length k.name) 7 ≡ s → nat_le (length l.name) 7 ≡ t →
      cond s (args_byte k.args) 254 ≡ cond t (args_byte l.args) 254 → cond s (args_byte k.args) 254 % 2 ≡ 1 →
      cond s (first_number k.args) (pos 0) ≡ cond t (first_number l.args) (pos 0) → k ≡ l
  last_same e true true s t same odd m =
      let known : decided k.args ≡ 1 = omega (arith, odd, decided_le k.args) in
      let args = same_args k.args l.args (same_length k.args l.args same) (same_rank k.args l.args same) m known in
      let name = one_name e s t in
      λ i. record { name = name i; args = args i }
  last_same e true false s t same odd m = absurd (omega (arith, same, args_byte_le k left))
  last_same e false t s u same odd m = absurd (omega (arith, odd))

  -- and an odd head and the number are all of the location
  pub same_place : place_head k ≡ place_head l → place_number k ≡ place_number l → place_head k % 2 ≡ 1 → k ≡ l
  same_place e m odd =
      let last : last_byte k % 2 ≡ 1 = omega (arith, odd) in
      last_same (one_start e) (nat_le (length k.name) 7) (nat_le (length l.name) 7) refl refl (one_last e) last m

-- the head refines the order, and then the number does
module _ (k l : Place) (left : IsProper k) (right : IsProper l) where
  heads : Refines (nat_cmp (place_head k) (place_head l)) (location_cmp k l)
  heads = by (nat_cmp (place_head k) (place_head l)) (ranks (place_head k) (place_head l)) where
    by : (r : Ordering) → MatchOrdering r (place_head k < place_head l) (place_head k ≡ place_head l) (place_head l < place_head k) → Refines r (location_cmp k l)
    by Less h = head_less k l left right h
    by Equal h = refl
    by Greater h = location_cmp_total.antisymm k l ∙ ap ordering_reverse (head_less l k right left h)

  pub refines : Refines (ordering_then (nat_cmp (place_head k) (place_head l)) (int_cmp (place_number k) (place_number l))) (location_cmp k l)
  refines = by (nat_cmp (place_head k) (place_head l)) (λ e. nat_cmp-IsAntisymmetric (place_head k) (place_head l) e) heads where
    by : (r : Ordering) → (r ≡ Equal → place_head k ≡ place_head l) → Refines r (location_cmp k l) →
        Refines (ordering_then r (int_cmp (place_number k) (place_number l))) (location_cmp k l)
    by Less e h = h
    by Equal e h = numbers k l left right (e refl)
    by Greater e h = h

  -- so heads that differ decide
  pub by_heads : place_head k ≢ place_head l → nat_cmp (place_head k) (place_head l) ≡ location_cmp k l
  by_heads apart = decides (nat_cmp (place_head k) (place_head l)) (location_cmp k l) heads (λ e. apart (nat_cmp-IsAntisymmetric (place_head k) (place_head l) e))

  -- then numbers that differ
  pub by_numbers : place_head k ≡ place_head l → place_number k ≢ place_number l → int_cmp (place_number k) (place_number l) ≡ location_cmp k l
  by_numbers e apart =
      decides (int_cmp (place_number k) (place_number l)) (location_cmp k l) (numbers k l left right e)
      (λ t. apart (int_cmp-IsAntisymmetric (place_number k) (place_number l) t))

  -- and a head that is odd leaves nothing else
  pub by_both : place_head k ≡ place_head l → place_number k ≡ place_number l → place_head k % 2 ≡ 1 → Equal ≡ location_cmp k l
  by_both e m odd =
      sym (ap (location_cmp k) (sym (same_place k l left right e m odd)) ∙ tied_itself location_cmp_total k)
