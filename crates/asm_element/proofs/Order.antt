-- Ascending keys, and what a key between two lists does to them. All of it holds for any total order.
use Rattle.std.proofs.Common.{◌≡◌, ℕ, zero, suc, ◌+◌, ◌-◌, ◌<◌, ◌≤◌, Bool, true, false, cond, List, [], ◌∷◌, ◌++◌, length, get_or, take, drop, refl, sym, ap, ◌∙◌, subst, arith}
use Rattle.std.specs.declared.cmp.Ordering.{Ordering}
use Rattle.std.specs.declared.cmp.Ordering.TheVariants.{Less, Equal, Greater}
use Rattle.std.specs.Ordering.{ordering_reverse, match_ordering, is_eq}
use Rattle.std.specs.Cmp.{IsTotalOrder}
use Rattle.std.specs.List.{AllByRecursion}
use Rattle.std.specs.List.Sorted.{IsStrictlySortedBy}
use Rattle.std.specs.Prelude.{Option, None, Some}
use Rattle.std.specs.BTreeMap.{is_at, insert_entry}
use Rattle.std.specs.Map.{keys_of, lookup, set_value, remove_entry}
use Rattle.std.proofs.lemmas.List.{append-nil}
use Rattle.asm_element.specs.Slots.{keep, live}

module _ {X : Type 0} (P : X → Type 0) where
  pub all-append : (xs ys : List X) → AllByRecursion P xs → AllByRecursion P ys → AllByRecursion P (xs ++ ys)
  all-append [] ys a b = b
  all-append (x ∷ xs) ys a b = (a.0, all-append xs ys a.1 b)

  pub all-left : (xs ys : List X) → AllByRecursion P (xs ++ ys) → AllByRecursion P xs
  all-left [] ys a = tt
  all-left (x ∷ xs) ys a = (a.0, all-left xs ys a.1)

  pub all-right : (xs ys : List X) → AllByRecursion P (xs ++ ys) → AllByRecursion P ys
  all-right [] ys a = a
  all-right (x ∷ xs) ys a = all-right xs ys a.1

  all_keep : (m : ℕ) (x : X × ℕ) (xs : List (X × ℕ)) → P x.0 → AllByRecursion P (keys_of xs) → AllByRecursion P (keys_of (keep m x xs))
  all_keep zero x xs p a = a
  all_keep (suc m) x xs p a = (p, a)

  pub all-live : (ss : List (X × ℕ)) → AllByRecursion P (keys_of ss) → AllByRecursion P (keys_of (live ss))
  all-live [] a = tt
  all-live (s ∷ ss) a = all_keep s.1 s (live ss) a.0 (all-live ss a.1)

  pub all_map : (Q : X → Type 0) → ((x : X) → P x → Q x) → (xs : List X) → AllByRecursion P xs → AllByRecursion Q xs
  all_map Q f [] a = tt
  all_map Q f (x ∷ xs) a = (f x a.0, all_map Q f xs a.1)

module _ {K : Type 0} (cmp : K → K → Ordering) where
  pub sorted-left : (xs ys : List K) → IsStrictlySortedBy cmp (xs ++ ys) → IsStrictlySortedBy cmp xs
  unfolding IsStrictlySortedBy
  sorted-left [] ys s = tt
  sorted-left (x ∷ xs) ys s = (all-left (λ y. cmp x y ≡ Less) xs ys s.0, sorted-left xs ys s.1)

  pub sorted-right : (xs ys : List K) → IsStrictlySortedBy cmp (xs ++ ys) → IsStrictlySortedBy cmp ys
  unfolding IsStrictlySortedBy
  sorted-right [] ys s = s
  sorted-right (x ∷ xs) ys s = sorted-right xs ys s.1

  all_middle : (P : K → Type 0) (l r : List K) (k : K) → AllByRecursion P (l ++ r) → P k → AllByRecursion P (l ++ k ∷ r)
  all_middle P [] r k a p = (p, a)
  all_middle P (x ∷ l) r k a p = (a.0, all_middle P l r k a.1 p)

  -- a key between two lists leaves them in order
  pub sorted_middle : (l r : List K) (k : K) → IsStrictlySortedBy cmp (l ++ r) → AllByRecursion (λ y. cmp y k ≡ Less) l → AllByRecursion (λ y. cmp k y ≡ Less) r → IsStrictlySortedBy cmp (l ++ k ∷ r)
  unfolding IsStrictlySortedBy
  sorted_middle [] r k s b a = (a, s)
  sorted_middle (x ∷ l) r k s b a = (all_middle (λ y. cmp x y ≡ Less) l r k s.0 b.0, sorted_middle l r k s.1 b.1 a)

  purge_all : (P : K → Type 0) (a : List K) (ss : List (K × ℕ)) (b : List K) → AllByRecursion P (a ++ (keys_of ss ++ b)) → AllByRecursion P (a ++ (keys_of (live ss) ++ b))
  purge_all P [] ss b h = all-append P (keys_of (live ss)) b (all-live P ss (all-left P (keys_of ss) b h)) (all-right P (keys_of ss) b h)
  purge_all P (x ∷ a) ss b h = (h.0, purge_all P a ss b h.1)

  purge_keep : (m : ℕ) (x : K × ℕ) (xs : List (K × ℕ)) (b : List K) → AllByRecursion (λ y. cmp x.0 y ≡ Less) (keys_of xs ++ b) → IsStrictlySortedBy cmp (keys_of xs ++ b) → IsStrictlySortedBy cmp (keys_of (keep m x xs) ++ b)
  unfolding IsStrictlySortedBy
  purge_keep zero x xs b a s = s
  purge_keep (suc m) x xs b a s = (a, s)

  purge_first : (ss : List (K × ℕ)) (b : List K) → IsStrictlySortedBy cmp (keys_of ss ++ b) → IsStrictlySortedBy cmp (keys_of (live ss) ++ b)
  unfolding IsStrictlySortedBy
  purge_first [] b s = s
  purge_first (x ∷ ss) b s = purge_keep x.1 x (live ss) b (purge_all (λ y. cmp x.0 y ≡ Less) [] ss b s.0) (purge_first ss b s.1)

  -- fewer keys stay in order
  pub sorted_purge : (a : List K) (ss : List (K × ℕ)) (b : List K) → IsStrictlySortedBy cmp (a ++ (keys_of ss ++ b)) → IsStrictlySortedBy cmp (a ++ (keys_of (live ss) ++ b))
  unfolding IsStrictlySortedBy
  sorted_purge [] ss b s = purge_first ss b s
  sorted_purge (x ∷ a) ss b s = (purge_all (λ y. cmp x y ≡ Less) a ss b s.0, sorted_purge a ss b s.1)

  -- so do those before and after a part
  pub sorted_without : (a c b : List K) → IsStrictlySortedBy cmp (a ++ (c ++ b)) → IsStrictlySortedBy cmp (a ++ b)
  unfolding IsStrictlySortedBy
  sorted_without [] c b s = sorted-right c b s
  sorted_without (x ∷ a) c b s =
      let P = λ (y : K). cmp x y ≡ Less in
      (all-append P a b (all-left P a (c ++ b) s.0) (all-right P c b (all-right P a (c ++ b) s.0)), sorted_without a c b s.1)

  all_here : (P : K → Type 0) (xs : List K) (h : K) (ys : List K) → AllByRecursion P (xs ++ h ∷ ys) → P h
  all_here P [] h ys a = a.0
  all_here P (x ∷ xs) h ys a = all_here P xs h ys a.1

  pub below_here : (xs : List K) (h : K) (ys : List K) → IsStrictlySortedBy cmp (xs ++ h ∷ ys) → AllByRecursion (λ y. cmp y h ≡ Less) xs
  unfolding IsStrictlySortedBy
  below_here [] h ys s = tt
  below_here (x ∷ xs) h ys s = (all_here (λ y. cmp x y ≡ Less) xs h ys s.0, below_here xs h ys s.1)

  pub above_here : (xs : List K) (h : K) (ys : List K) → IsStrictlySortedBy cmp (xs ++ h ∷ ys) → AllByRecursion (λ y. cmp h y ≡ Less) ys
  unfolding IsStrictlySortedBy
  above_here [] h ys s = s.0
  above_here (x ∷ xs) h ys s = above_here xs h ys s.1

  module _ (total : IsTotalOrder cmp) where
    turned : (x y : K) → cmp x y ≡ Less → cmp y x ≡ Greater
    turned x y e = total.antisymm y x ∙ ap ordering_reverse e

    own : (o : Ordering) → o ≡ ordering_reverse o → o ≡ Equal
    own Less e = cc
    own Equal e = refl
    own Greater e = cc

    pub itself : (x : K) → cmp x x ≡ Equal
    itself x = own (cmp x x) (total.antisymm x x)

    module _ (k : K) where
      insert_above : (r : List (K × ℕ)) (n : ℕ) → AllByRecursion (λ y. cmp k y ≡ Less) (keys_of r) → insert_entry cmp r k n ≡ (k, n) ∷ r
      insert_above [] n a = refl
      insert_above (x ∷ r) n a = ap (λ o. match_ordering o ((k, n) ∷ x ∷ r) ((x.0, n) ∷ r) (x ∷ insert_entry cmp r k n)) a.0

      -- a new key goes between the smaller and the greater ones
      pub insert_between : (l r : List (K × ℕ)) (n : ℕ) → AllByRecursion (λ y. cmp y k ≡ Less) (keys_of l) → AllByRecursion (λ y. cmp k y ≡ Less) (keys_of r) → insert_entry cmp (l ++ r) k n ≡ l ++ (k, n) ∷ r
      insert_between [] r n b a = insert_above r n a
      insert_between (x ∷ l) r n b a =
          ap (λ o. match_ordering o ((k, n) ∷ x ∷ (l ++ r)) ((x.0, n) ∷ (l ++ r)) (x ∷ insert_entry cmp (l ++ r) k n)) (turned x.0 k b.0)
          ∙ ap (λ xs. x ∷ xs) (insert_between l r n b.1 a)

      -- a key that is there goes, is set, or is found
      pub remove_between : (l r : List (K × ℕ)) (m : ℕ) → AllByRecursion (λ y. cmp y k ≡ Less) (keys_of l) → remove_entry (is_at (cmp k)) (l ++ (k, m) ∷ r) ≡ l ++ r
      remove_between [] r m b = ap (λ o. cond (is_eq o) r ((k, m) ∷ remove_entry (is_at (cmp k)) r)) (itself k)
      remove_between (x ∷ l) r m b =
          ap (λ o. cond (is_eq o) (l ++ (k, m) ∷ r) (x ∷ remove_entry (is_at (cmp k)) (l ++ (k, m) ∷ r))) (turned x.0 k b.0)
          ∙ ap (λ xs. x ∷ xs) (remove_between l r m b.1)

      pub set_between : (l r : List (K × ℕ)) (m w : ℕ) → AllByRecursion (λ y. cmp y k ≡ Less) (keys_of l) → set_value (is_at (cmp k)) (l ++ (k, m) ∷ r) w ≡ l ++ (k, w) ∷ r
      set_between [] r m w b = ap (λ o. cond (is_eq o) ((k, w) ∷ r) ((k, m) ∷ set_value (is_at (cmp k)) r w)) (itself k)
      set_between (x ∷ l) r m w b =
          ap (λ o. cond (is_eq o) ((x.0, w) ∷ (l ++ (k, m) ∷ r)) (x ∷ set_value (is_at (cmp k)) (l ++ (k, m) ∷ r) w)) (turned x.0 k b.0)
          ∙ ap (λ xs. x ∷ xs) (set_between l r m w b.1)

      pub lookup_here : (l r : List (K × ℕ)) (m : ℕ) → AllByRecursion (λ y. cmp y k ≡ Less) (keys_of l) → lookup (is_at (cmp k)) (l ++ (k, m) ∷ r) ≡ Some m
      lookup_here [] r m b = ap (λ o. cond (is_eq o) (Some m) (lookup (is_at (cmp k)) r)) (itself k)
      lookup_here (x ∷ l) r m b = ap (λ o. cond (is_eq o) (Some x.1) (lookup (is_at (cmp k)) (l ++ (k, m) ∷ r))) (turned x.0 k b.0) ∙ lookup_here l r m b.1

      -- a key that isn't there is found nowhere, and changes nothing
      pub lookup_above : (r : List (K × ℕ)) → AllByRecursion (λ y. cmp k y ≡ Less) (keys_of r) → lookup (is_at (cmp k)) r ≡ None
      lookup_above [] a = refl
      lookup_above (x ∷ r) a = ap (λ o. cond (is_eq o) (Some x.1) (lookup (is_at (cmp k)) r)) a.0 ∙ lookup_above r a.1

      pub lookup_between : (l r : List (K × ℕ)) → AllByRecursion (λ y. cmp y k ≡ Less) (keys_of l) → AllByRecursion (λ y. cmp k y ≡ Less) (keys_of r) → lookup (is_at (cmp k)) (l ++ r) ≡ None
      lookup_between [] r b a = lookup_above r a
      lookup_between (x ∷ l) r b a = ap (λ o. cond (is_eq o) (Some x.1) (lookup (is_at (cmp k)) (l ++ r))) (turned x.0 k b.0) ∙ lookup_between l r b.1 a

      remove_above : (r : List (K × ℕ)) → AllByRecursion (λ y. cmp k y ≡ Less) (keys_of r) → remove_entry (is_at (cmp k)) r ≡ r
      remove_above [] a = refl
      remove_above (x ∷ r) a = ap (λ o. cond (is_eq o) r (x ∷ remove_entry (is_at (cmp k)) r)) a.0 ∙ ap (λ xs. x ∷ xs) (remove_above r a.1)

      pub remove_absent : (l r : List (K × ℕ)) → AllByRecursion (λ y. cmp y k ≡ Less) (keys_of l) → AllByRecursion (λ y. cmp k y ≡ Less) (keys_of r) → remove_entry (is_at (cmp k)) (l ++ r) ≡ l ++ r
      remove_absent [] r b a = remove_above r a
      remove_absent (x ∷ l) r b a =
          ap (λ o. cond (is_eq o) (l ++ r) (x ∷ remove_entry (is_at (cmp k)) (l ++ r))) (turned x.0 k b.0)
          ∙ ap (λ xs. x ∷ xs) (remove_absent l r b.1 a)

      set_above : (r : List (K × ℕ)) (w : ℕ) → AllByRecursion (λ y. cmp k y ≡ Less) (keys_of r) → set_value (is_at (cmp k)) r w ≡ r
      set_above [] w a = refl
      set_above (x ∷ r) w a = ap (λ o. cond (is_eq o) ((x.0, w) ∷ r) (x ∷ set_value (is_at (cmp k)) r w)) a.0 ∙ ap (λ xs. x ∷ xs) (set_above r w a.1)

      pub set_absent : (l r : List (K × ℕ)) (w : ℕ) → AllByRecursion (λ y. cmp y k ≡ Less) (keys_of l) → AllByRecursion (λ y. cmp k y ≡ Less) (keys_of r) → set_value (is_at (cmp k)) (l ++ r) w ≡ l ++ r
      set_absent [] r w b a = set_above r w a
      set_absent (x ∷ l) r w b a =
          ap (λ o. cond (is_eq o) ((x.0, w) ∷ (l ++ r)) (x ∷ set_value (is_at (cmp k)) (l ++ r) w)) (turned x.0 k b.0)
          ∙ ap (λ xs. x ∷ xs) (set_absent l r w b.1 a)

    -- what is below a smaller key is below a greater one, and the other way round
    pub below_lower : (h k : K) (xs : List K) → cmp h k ≡ Less → AllByRecursion (λ y. cmp y h ≡ Less) xs → AllByRecursion (λ y. cmp y k ≡ Less) xs
    below_lower h k xs e = all_map (λ y. cmp y h ≡ Less) (λ y. cmp y k ≡ Less) (λ y p. total.trans y h k p e) xs

    pub above_higher : (h k : K) (xs : List K) → cmp k h ≡ Less → AllByRecursion (λ y. cmp h y ≡ Less) xs → AllByRecursion (λ y. cmp k y ≡ Less) xs
    above_higher h k xs e = all_map (λ y. cmp h y ≡ Less) (λ y. cmp k y ≡ Less) (λ y p. total.trans k h y e p) xs

module _ {K : Type 0} (cmp : K → K → Ordering) where
  pub sorted_live : (ss : List (K × ℕ)) → IsStrictlySortedBy cmp (keys_of ss) → IsStrictlySortedBy cmp (keys_of (live ss))
  sorted_live ss s = subst (IsStrictlySortedBy cmp) (append-nil (keys_of (live ss))) (sorted_purge cmp [] ss [] (subst (IsStrictlySortedBy cmp) (sym (append-nil (keys_of ss))) s))
