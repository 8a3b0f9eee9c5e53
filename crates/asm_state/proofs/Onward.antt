-- The entries from the first location of a name on: those of the name stand in front.
use Rattle.std.proofs.Common.{◌≡◌, ℕ, Bool, true, false, cond, ◌&&◌, ◌||◌, ◌==◌, not, nat_eq, nat_lt, is_some, T, List, [], ◌∷◌, length, Some, None, refl, sym, ap, ◌∙◌, subst, arith}
use Rattle.std.proofs.lemmas.Bool.{false≢true}
use Rattle.std.proofs.lemmas.Bool.Decides.{nat_tests}
use Rattle.std.proofs.lemmas.Cmp.{tied_itself}
use Rattle.std.specs.BTreeMap.Range.{entries_between, range_contains}
use Rattle.std.specs.Cmp.{unsigned_Decides}
use Rattle.std.specs.Cmp.Lexicographic.{slice_cmp, nat_list_cmp_total}
use Rattle.std.specs.FinMap as finite
use Rattle.std.specs.FinMap.{nat_cmp-IsAntisymmetric, slice_cmp-IsAntisymmetric}
use Rattle.std.specs.FinMap.Entries.{below_all, is_sorted, is_sorted-where_key, find-where_key, where_key}
use Rattle.std.specs.Ordering.{eq_by_cmp, is_gt, is_le, is_lt, nat_cmp, ordering_reverse, ordering_then}
use Rattle.std.specs.declared.cmp.Ordering.{Ordering}
use Rattle.std.specs.declared.cmp.Ordering.TheVariants.{Less, Equal, Greater}
use Rattle.std.specs.declared.ops.Bound.TheVariants.{Included, Unbounded}
use Rattle.asm_element.specs.declared.element.Element.{Element}
use Rattle.asm_element.specs.Ascending.{both_T, is_less, rising_rest}
use Rattle.asm_element.specs.Element.{element_cmp}
use Rattle.asm_element.specs.Place.{Place, location_cmp, location_cmp_total, location_cmp-IsAntisymmetric, same_location}
use Rattle.asm_element.specs.Same.{pointwise-IsIdentity}
use Rattle.asm_element.specs.Tests.{itself, is_some-cond, or_right}
use Rattle.asm_state.specs.Scans.{has_name}

-- a location below all of a list isn't above one that is among them
among : {X : Type 0} (k : Place) (es : List (Place × X)) (q : Place) → T (below_all location_cmp k es) →
    is_some (finite.find location_cmp q es) ≡ true → is_gt (location_cmp k q) ≡ false
among k [] q below is = absurd (false≢true is)
among {X} k (e ∷ es) q below is =
    let parts = both_T (is_lt (location_cmp k e.0)) (below_all location_cmp k es) below in
    by_test parts.0 (among k es q parts.1) (eq_by_cmp location_cmp q e.0) refl is where
      by_test : T (is_lt (location_cmp k e.0)) →
          (is_some (finite.find location_cmp q es) ≡ true → is_gt (location_cmp k q) ≡ false) → (b : Bool) →
          eq_by_cmp location_cmp q e.0 ≡ b → is_some (cond b (Some e.1) (finite.find location_cmp q es)) ≡ true →
          is_gt (location_cmp k q) ≡ false
      by_test less rest true tie is =
          ap (λ (p : Place). is_gt (location_cmp k p)) (same_location q e.0 tie) ∙ ap is_gt (is_less (location_cmp k e.0) less)
      by_test less rest false apart is = rest is

-- nor is the first of a list above one of it
pub not_below : {X : Type 0} (k : Place) (w : X) (rest : List (Place × X)) (q : Place) →
    T (is_sorted location_cmp ((k, w) ∷ rest)) → is_some (finite.find location_cmp q ((k, w) ∷ rest)) ≡ true →
    is_gt (location_cmp k q) ≡ false
not_below {X} k w rest q sorted is = by_test (eq_by_cmp location_cmp q k) refl is where
  by_test : (b : Bool) → eq_by_cmp location_cmp q k ≡ b →
      is_some (cond b (Some w) (finite.find location_cmp q rest)) ≡ true → is_gt (location_cmp k q) ≡ false
  by_test true tie is =
      ap (λ (p : Place). is_gt (location_cmp k p)) (same_location q k tie) ∙ ap is_gt (tied_itself location_cmp_total k)
  by_test false apart is =
      among k rest q (both_T (below_all location_cmp k rest) (is_sorted location_cmp rest) sorted).0 is

-- THE ORDER OF LOCATIONS: those of one name stand side by side, the one without arguments first

no_args_least : (a : List Element) → is_gt (ordering_then (nat_cmp 0 (length a)) (slice_cmp element_cmp [] a)) ≡ false
no_args_least [] = refl
no_args_least (x ∷ xs) =
    let lt : nat_lt 0 (length (x ∷ xs)) ≡ true = grind (arith, nat_tests) in
    ap (λ b. is_gt (ordering_then (cond b Less (cond (0 == length (x ∷ xs)) Equal Greater)) (slice_cmp element_cmp [] (x ∷ xs)))) lt

named_is : (name : List ℕ) (q : Place) → has_name name q ≡ true → q.name ≡ name
named_is name q h = (pointwise-IsIdentity nat_eq unsigned_Decides q.name name).0 h

is_named : (name : List ℕ) (q : Place) → q.name ≡ name → has_name name q ≡ true
is_named name q e = (pointwise-IsIdentity nat_eq unsigned_Decides q.name name).1 e

-- the one without arguments isn't above another of its name
first_least : (first q : Place) → first.args ≡ [] → has_name first.name q ≡ true → is_gt (location_cmp first q) ≡ false
first_least first q none named =
    let name : slice_cmp nat_cmp first.name q.name ≡ Equal =
    ap (slice_cmp nat_cmp first.name) (named_is first.name q named) ∙ tied_itself nat_list_cmp_total first.name in
    ap (λ o. is_gt (ordering_then o (ordering_then (nat_cmp (length first.args) (length q.args)) (slice_cmp element_cmp first.args q.args)))) name
    ∙ ap (λ (a : List Element). is_gt (ordering_then (nat_cmp (length a) (length q.args)) (slice_cmp element_cmp a q.args))) none
    ∙ no_args_least q.args

names_first : (o p : Ordering) → is_gt (ordering_then o p) ≡ false → is_gt o ≡ false
names_first Less p h = refl
names_first Equal p h = refl
names_first Greater p h = h

both_ways : (o : Ordering) → is_gt o ≡ false → is_gt (ordering_reverse o) ≡ false → o ≡ Equal
both_ways Less h k = absurd (false≢true (sym k))
both_ways Equal h k = refl
both_ways Greater h k = absurd (false≢true (sym h))

-- past the locations of a name there is none of it
apart : (first k q : Place) → is_gt (location_cmp first k) ≡ false → has_name first.name k ≡ false →
    is_gt (location_cmp k q) ≡ false → has_name first.name q ≡ true → ⊥
apart first k q above other more named =
    let n = first.name in
    let up = names_first (slice_cmp nat_cmp n k.name) _ above in
    let down = names_first (slice_cmp nat_cmp k.name q.name) _ more in
    let down' : is_gt (ordering_reverse (slice_cmp nat_cmp n k.name)) ≡ false =
    sym (ap is_gt (ap (slice_cmp nat_cmp k.name) (named_is n q named) ∙ nat_list_cmp_total.antisymm k.name n)) ∙ down in
    let same = slice_cmp-IsAntisymmetric nat_cmp-IsAntisymmetric n k.name (both_ways (slice_cmp nat_cmp n k.name) up down') in
    false≢true (sym other ∙ is_named n k (sym same))

not_gt_le : (o : Ordering) → is_gt o ≡ false → (is_le o && not false) ≡ true
not_gt_le Less h = refl
not_gt_le Equal h = refl
not_gt_le Greater h = absurd (false≢true (sym h))

le_not_gt : (o : Ordering) → (is_le o && not false) ≡ true → is_gt o ≡ false
le_not_gt Less h = refl
le_not_gt Equal h = refl
le_not_gt Greater h = absurd (false≢true h)

-- what is left of a walk that began at the first location of a name
pub record IsOnward {X : Type 0} (first : Place) (left : List (Place × X)) : Type 0 where
  pub rising : T (is_sorted location_cmp left)
  pub above : (q : Place) → is_some (finite.find location_cmp q left) ≡ true → is_gt (location_cmp first q) ≡ false

module _ {X : Type 0} (first : Place) where
  module _ (m : finite.FinMap location_cmp X) (left : List (Place × X))
      (is : left ≡ entries_between location_cmp (Included first) Unbounded (finite.entries m)) where
    abbrev reached : Place → Bool
    reached q = range_contains location_cmp (Included first) Unbounded q

    found : (q : Place) → finite.find location_cmp q (where_key location_cmp reached (finite.entries m))
        ≡ cond (reached q) (finite.find location_cmp q (finite.entries m)) None
    found q = find-where_key location_cmp reached q (λ x tie. ap reached (sym (location_cmp-IsAntisymmetric q x tie))) (finite.entries m)

    -- before the first step
    pub onward_start : IsOnward first left
    onward_start =
        subst (IsOnward first) (sym is) (record {
          rising = is_sorted-where_key location_cmp reached (finite.entries m) (finite.entries_sorted m);
          above = λ q some. by_test q (reached q) refl some;
        }) where
          by_test : (q : Place) (b : Bool) → reached q ≡ b →
              is_some (finite.find location_cmp q (where_key location_cmp reached (finite.entries m))) ≡ true →
              is_gt (location_cmp first q) ≡ false
          by_test q true e some = le_not_gt (location_cmp first q) e
          by_test q false e some =
              absurd (false≢true (sym (ap is_some (found q ∙ ap (λ b. cond b (finite.find location_cmp q (finite.entries m)) None) e)) ∙ some))

    -- all locations of the name are ahead
    pub onward_has : first.args ≡ [] → (q : Place) → has_name first.name q ≡ true → finite.find location_cmp q left ≡ finite.get m q
    onward_has none q named =
        ap (λ (es : List (Place × X)). finite.find location_cmp q es) is ∙ found q
        ∙ ap (λ b. cond b (finite.find location_cmp q (finite.entries m)) None) (not_gt_le (location_cmp first q) (first_least first q none named))
        ∙ sym (finite.get-entries m q)

  module _ (k : Place) (x : X) (rest : List (Place × X)) (left : IsOnward first ((k, x) ∷ rest)) where
    pub onward_step : IsOnward first rest
    onward_step = record {
      rising = rising_rest location_cmp k x rest left.rising;
      above = λ q some. left.above q
          (is_some-cond (eq_by_cmp location_cmp q k) x (finite.find location_cmp q rest) ∙ or_right (eq_by_cmp location_cmp q k) (is_some (finite.find location_cmp q rest)) some);
    }

    -- behind a location of another name there is none of the name
    pub onward_past : has_name first.name k ≡ false → (q : Place) → has_name first.name q ≡ true →
        is_some (finite.find location_cmp q ((k, x) ∷ rest)) ≡ false
    onward_past other q named = by_find (is_some (finite.find location_cmp q ((k, x) ∷ rest))) refl where
      by_find : (b : Bool) → is_some (finite.find location_cmp q ((k, x) ∷ rest)) ≡ b → b ≡ false
      by_find false none = refl
      by_find true some = absurd (apart first k q (left.above k (is_some-cond (eq_by_cmp location_cmp k k) x (finite.find location_cmp k rest) ∙ ap (λ b. b || is_some (finite.find location_cmp k rest)) (itself location_cmp_total k))) other (not_below k x rest q left.rising some) named)
