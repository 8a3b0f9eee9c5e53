-- References to locations with their values, in ascending order, as a finite map; and one more at the end.
use Rattle.std.proofs.Common.{◌≡◌, suc, Bool, true, false, cond, List, [], ◌∷◌, ◌++◌, length, Option, Some, None, Bor, refl}
use Rattle.std.proofs.Common.{sym, ap, subst, ◌∙◌}
use Rattle.std.specs.Prelude.{is_some}
use Rattle.std.specs.FinMap as finite
use Rattle.std.specs.List.{AllByRecursion}
use Rattle.std.specs.List.Sorted.{IsStrictlySortedBy}
use Rattle.std.specs.Map.{keys_of}
use Rattle.std.specs.Ordering.{eq_by_cmp, is_eq}
use Rattle.std.proofs.lemmas.Bool.{false≢true}
use Rattle.std.specs.declared.cmp.Ordering.TheVariants.{Less}
use Rattle.std.proofs.lemmas.List.{map-append}
use Rattle.asm_element.specs.Place.{Place, location_cmp, location_cmp_total, location_cmp-IsAntisymmetric}
use Rattle.asm_element.specs.Tests.{itself}
use Rattle.asm_element.proofs.Ordered.{entries-from_tree}
use Rattle.asm_element.specs.declared.value.Value.{Value}
use Rattle.asm_aggregate.specs.Bundle.{by_place}

-- all that the list has a value of is below the location
abbrev pub AreBelow : List (Bor Place × Value) → Place → Type 0
AreBelow xs k = (q : Place) → is_some (finite.find location_cmp q (by_place xs)) ≡ true → location_cmp q k ≡ Less

found_first : (x : Bor Place × Value) (xs : List (Bor Place × Value)) →
    is_some (finite.find location_cmp x.0.now (by_place (x ∷ xs))) ≡ true
found_first x xs =
    ap (λ b. is_some (cond b (Some x.1) (finite.find location_cmp x.0.now (by_place xs)))) (itself location_cmp_total x.0.now)

found_later : (x : Bor Place × Value) (xs : List (Bor Place × Value)) (q : Place) →
    is_some (finite.find location_cmp q (by_place xs)) ≡ true →
    is_some (finite.find location_cmp q (by_place (x ∷ xs))) ≡ true
found_later x xs q some = by_test (eq_by_cmp location_cmp q x.0.now) where
  by_test : (b : Bool) → is_some (cond b (Some x.1) (finite.find location_cmp q (by_place xs))) ≡ true
  by_test true = refl
  by_test false = some

above_more : (l : Place) (xs : List (Bor Place × Value)) (r : Bor Place) (v : Value) →
    AllByRecursion (λ y. location_cmp l y ≡ Less) (keys_of (by_place xs)) → location_cmp l r.now ≡ Less →
    AllByRecursion (λ y. location_cmp l y ≡ Less) (keys_of (by_place (xs ++ (r, v) ∷ [])))
above_more l [] r v h low = (low, tt)
above_more l (x ∷ xs) r v h low = (h.0, above_more l xs r v h.1 low)

pub sorted_more : (xs : List (Bor Place × Value)) (r : Bor Place) (v : Value) →
    IsStrictlySortedBy location_cmp (keys_of (by_place xs)) → AreBelow xs r.now →
    IsStrictlySortedBy location_cmp (keys_of (by_place (xs ++ (r, v) ∷ [])))
unfolding IsStrictlySortedBy
sorted_more [] r v rising low = (tt, tt)
sorted_more (x ∷ xs) r v rising low = (
  above_more x.0.now xs r v rising.0 (low x.0.now (found_first x xs)),
  sorted_more xs r v rising.1 (λ q some. low q (found_later x xs q some)),
)

not_found : (xs : List (Bor Place × Value)) (k : Place) → AreBelow xs k →
    finite.find location_cmp k (by_place xs) ≡ None
not_found xs k low = by_find (finite.find location_cmp k (by_place xs)) refl where
  by_find : (o : Option Value) → finite.find location_cmp k (by_place xs) ≡ o →
      finite.find location_cmp k (by_place xs) ≡ None
  by_find None e = e
  by_find (Some v) e = absurd (false≢true (sym (ap is_eq (low k (ap is_some e))) ∙ itself location_cmp_total k))

pub listed_last : (xs : List (Bor Place × Value)) (r : Bor Place) (v : Value) → AreBelow xs r.now →
    finite.from_entries (by_place (xs ++ (r, v) ∷ [])) ≡ finite.insert {R = location_cmp} (finite.from_entries (by_place xs)) r.now v
listed_last xs r v low =
    ap finite.from_entries (map-append (λ (e : Bor Place × Value). (e.0.now, e.1)) xs ((r, v) ∷ []))
    ∙ finite.from_entries_push location_cmp_total location_cmp-IsAntisymmetric (by_place xs) r.now v (not_found xs r.now low)

-- what the map has is in the list
pub below_from : (xs : List (Bor Place × Value)) (m : finite.FinMap location_cmp Value) (k : Place) →
    finite.from_entries (by_place xs) ≡ m →
    ((q : Place) → is_some (finite.get m q) ≡ true → location_cmp q k ≡ Less) → AreBelow xs k
below_from xs m k is low q some =
    low q (ap (λ (n : finite.FinMap location_cmp Value). is_some (finite.get n q)) (sym is)
    ∙ ap is_some (finite.get-from_entries location_cmp_total (by_place xs) q) ∙ some)

pub sorted_none : (xs : List (Bor Place × Value)) → xs ≡ [] → IsStrictlySortedBy location_cmp (keys_of (by_place xs))
unfolding IsStrictlySortedBy
sorted_none xs none = subst (λ ys. IsStrictlySortedBy location_cmp (keys_of (by_place ys))) (sym none) tt

counted : (xs : List (Bor Place × Value)) → length xs ≡ length (by_place xs)
counted [] = refl
counted (x ∷ xs) = ap suc (counted xs)

pub entries_listed : (xs : List (Bor Place × Value)) (m : finite.FinMap location_cmp Value) →
    IsStrictlySortedBy location_cmp (keys_of (by_place xs)) → finite.from_entries (by_place xs) ≡ m →
    by_place xs ≡ finite.entries m
entries_listed xs m rising is =
    sym (entries-from_tree location_cmp_total (by_place xs) rising) ∙ ap finite.entries is

pub len_listed : (xs : List (Bor Place × Value)) (m : finite.FinMap location_cmp Value) →
    IsStrictlySortedBy location_cmp (keys_of (by_place xs)) → finite.from_entries (by_place xs) ≡ m →
    length xs ≡ finite.len m
len_listed xs m rising is =
    counted xs ∙ ap length (entries_listed xs m rising is) ∙ sym (finite.len-entries m)
