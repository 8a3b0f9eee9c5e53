-- Where a binary search among the keys of a chunk ends.
use Rattle.asm_element.specs.declared.element.Element.{Element}
use Rattle.asm_element.specs.declared.element.Element.TheVariants.{Undef}
use Rattle.std.proofs.Common.{◌≡◌, ℕ, zero, suc, ◌+◌, ◌-◌, ◌<◌, ◌≤◌, List, [], ◌∷◌, ◌++◌, length, get_or, set, take, drop, Result, Ok, Err, IfOk, IfErr, refl, sym, ap, ◌∙◌, subst, arith}
use Rattle.std.specs.declared.cmp.Ordering.TheVariants.{Less, Equal, Greater}
use Rattle.asm_element.specs.Element.{element_cmp}
use Rattle.std.specs.Ordering.{ordering_index, ordering_reverse, is_lt}
use Rattle.asm_element.specs.Element.{element_cmp_total}
use Rattle.asm_element.specs.Element.{element_cmp-IsAntisymmetric}
use Rattle.std.specs.List.{AllByRecursion}
use Rattle.std.specs.List.Sorted.{IsStrictlySortedBy, IsSearchInRange, IsBinarySearchResult, IsNonDecreasingBy}
use Rattle.std.proofs.lemmas.List.{set_split, set-get_or, length-take, length-drop, get_or-take, get_or-drop}
use Rattle.std.proofs.lemmas.List.Sorted.{searchable_from_sorted}
use Rattle.std.proofs.lemmas.Map.Keys.{Less-from_sorted}
use Rattle.std.specs.Map.{keys_of}
use Rattle.asm_element.specs.Slots.{live, key_of, IsSpot, IsGap}
use Rattle.asm_element.proofs.Slots.{length-keys, get_or-keys, keys-take, keys-drop}
use Rattle.asm_element.proofs.Order.{below_here, above_here}

pub split_at : {X : Type 0} (xs : List X) (i : ℕ) (d : X) → i < length xs → xs ≡ take i xs ++ get_or xs i d ∷ drop (suc i) xs
split_at xs i d lt = sym (set-get_or xs i d) ∙ set_split xs i (get_or xs i d) lt

all_from_places : (P : Element → Type 0) (xs : List Element) → ((k : ℕ) → k < length xs → P (get_or xs k Undef)) → AllByRecursion P xs
all_from_places P [] h = tt
all_from_places P (x ∷ xs) h = (h 0 (omega arith), all_from_places P xs (λ k lt. h (suc k) (omega arith)))

rises : (ks : List Element) (k : Element) → IsStrictlySortedBy element_cmp ks → IsNonDecreasingBy (λ y. ordering_index (element_cmp y k)) ks
rises ks k s = searchable_from_sorted element_cmp_total (λ (y : Element). y) ks k (λ i d low lt.
    ap is_lt (element_cmp_total.antisymm (get_or ks (i + 1) d) (get_or ks i d) ∙ ap ordering_reverse (Less-from_sorted element_cmp ks i (i + 1) d s (omega arith) lt)))

pub record Searched (ss : List (Element × ℕ)) (k : Element) (r : Result ℕ ℕ) : Type 0 where
  pub found : IfOk r (IsSpot ss k)
  pub absent : IfErr r (IsGap ss k)

pub searched : (ss : List (Element × ℕ)) → IsStrictlySortedBy element_cmp (keys_of ss) → (k : Element) (r : Result ℕ ℕ) → IsSearchInRange r (length (keys_of ss)) → IsBinarySearchResult (λ y. element_cmp y k) (keys_of ss) r → Searched ss k r
searched ss s k (Ok i) range equal =
    let ks = keys_of ss in
    let is : get_or ks i Undef ≡ k = element_cmp-IsAntisymmetric (get_or ks i Undef) k (equal Undef) in
    let parts = split_at ks i Undef range in
    let s2 = subst (IsStrictlySortedBy element_cmp) parts s in
    record {
      found = record {
        in_range = omega (arith, length-keys ss);
        is_key = sym (get_or-keys ss i) ∙ is;
        below = subst (λ (h : Element). AllByRecursion (λ y. element_cmp y h ≡ Less) (keys_of (take i ss))) is (subst (AllByRecursion (λ y. element_cmp y (get_or ks i Undef) ≡ Less)) (sym (keys-take i ss)) (below_here element_cmp (take i ks) (get_or ks i Undef) (drop (suc i) ks) s2));
        above = subst (λ (h : Element). AllByRecursion (λ y. element_cmp h y ≡ Less) (keys_of (drop (suc i) ss))) is (subst (AllByRecursion (λ y. element_cmp (get_or ks i Undef) y ≡ Less)) (sym (keys-drop (suc i) ss)) (above_here element_cmp (take i ks) (get_or ks i Undef) (drop (suc i) ks) s2));
      };
      absent = tt;
    }
searched ss s k (Err i) range parted =
    let ks = keys_of ss in
    let point = parted (rises ks k s) in
    record {
      found = tt;
      absent = record {
        in_range = omega (arith, length-keys ss);
        below = subst (AllByRecursion (λ y. element_cmp y k ≡ Less)) (sym (keys-take i ss)) (all_from_places (λ y. element_cmp y k ≡ Less) (take i ks) (λ j lt.
            let long = length-take i ks in
            subst (λ (y : Element). element_cmp y k ≡ Less) (sym (get_or-take i ks j Undef (omega arith))) (point.0 j Undef (omega arith) (omega arith))));
        above = subst (AllByRecursion (λ y. element_cmp k y ≡ Less)) (sym (keys-drop i ss)) (all_from_places (λ y. element_cmp k y ≡ Less) (drop i ks) (λ j lt.
            let long = length-drop i ks in
            subst (λ (y : Element). element_cmp k y ≡ Less) (sym (get_or-drop i ks j Undef)) (element_cmp_total.antisymm k (get_or ks (i + j) Undef) ∙ ap ordering_reverse (point.1 (i + j) Undef (omega arith) (omega arith)))));
      };
    }
