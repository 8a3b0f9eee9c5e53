-- What becomes of a set and of a bag whose entries change.
use Rattle.std.proofs.Common.{◌≡◌, ℕ, zero, suc, ◌≤◌, ◌<◌, Bool, true, false, cond, not, if◌then◌else◌, nat_lt, ◌||◌, List, [], ◌∷◌, Result, Ok, Err, refl, sym, ap, ◌∙◌, subst, arith}
use Rattle.std.specs.Prelude.{Option, None, Some, is_some, IsSome, IfOk, OnErr, unwrap_or, All}
use Rattle.std.specs.declared.cmp.Ordering.{Ordering}
use Rattle.std.specs.declared.cmp.Ordering.TheVariants.{Less, Equal, Greater}
use Rattle.std.specs.Ordering.{is_eq, match_ordering, eq_by_cmp}
use Rattle.std.specs.Cmp.{eq_by_cmp_equiv, Equal-is}
use Rattle.std.specs.List.{list_any}
use Rattle.std.specs.List.Sorted.{IsStrictlySortedBy}
use Rattle.std.specs.BTreeMap.{is_at, insert_entry}
use Rattle.std.specs.Map.{keys_of, values_of, lookup, set_value, remove_entry}
use Rattle.std.specs.FinMap as map
use Rattle.std.proofs.lemmas.Bool.{lt-ltb}
use Rattle.std.proofs.lemmas.Map.{lookup-remove_entry, lookup-set_value, keys-set_value}
use Rattle.std.proofs.lemmas.Map.Keys.{IsDistinct-from_sorted}
use Rattle.std.proofs.lemmas.Map.Views.{All-keys-insert_entry, All-values-insert_entry, All-map-remove_entry, All-values-set_value}
use Rattle.asm_element.specs.declared.element.Element.{Element}
use Rattle.asm_element.specs.Element.{element_cmp, element_cmp_total, element_cmp-IsAntisymmetric, IsProper}
use Rattle.asm_element.specs.Set as set
use Rattle.asm_element.specs.Bag as bag
use Rattle.asm_element.specs.Entries.{at, held, assigned}
use Rattle.asm_element.proofs.Ordered.{get-from_tree}
use Rattle.asm_element.proofs.SetTree.{contains-from_tree, contains-insert, contains-remove}

abbrev eq : Element → Element → Bool
eq = eq_by_cmp element_cmp

same_key : (x y : Element) → eq x y ≡ true → x ≡ y
same_key x y h = element_cmp-IsAntisymmetric x y ((Equal-is (element_cmp x y)).0 h)

-- ---- look-ups

cond_again : {X : Type 0} (b : Bool) (x y z : X) → cond b x z ≡ cond b x (cond b y z)
cond_again true x y z = refl
cond_again false x y z = refl

cond_swap : {X : Type 0} (a b : Bool) (x y z : X) → (a ≡ true → b ≡ false) → cond a x (cond b y z) ≡ cond b y (cond a x z)
cond_swap true true x y z h = cc (h refl)
cond_swap true false x y z h = refl
cond_swap false true x y z h = refl
cond_swap false false x y z h = refl

not_both : (b : Bool) → (b ≡ true → ⊥) → b ≡ false
not_both true h = absurd (h refl)
not_both false h = refl

module _ (k : Element) (v : ℕ) (q : Element) where
  insert_step : (e : Element × ℕ) (es : List (Element × ℕ)) (o : Ordering) → o ≡ element_cmp k e.0 → at (insert_entry element_cmp es k v) q ≡ cond (eq q k) (Some v) (at es q) →
      at (match_ordering o ((k, v) ∷ e ∷ es) ((e.0, v) ∷ es) (e ∷ insert_entry element_cmp es k v)) q ≡ cond (eq q k) (Some v) (at (e ∷ es) q)
  insert_step e es Less is more = refl
  insert_step e es Equal is more =
      let same : k ≡ e.0 = element_cmp-IsAntisymmetric k e.0 (sym is) in
      cond_again (eq q e.0) (Some v) (Some e.1) (at es q) ∙ ap (λ (x : Element). cond (eq q x) (Some v) (at (e ∷ es) q)) (sym same)
  insert_step e es Greater is more =
      ap (cond (eq q e.0) (Some e.1)) more
      ∙ cond_swap (eq q e.0) (eq q k) (Some e.1) (Some v) (at es q) (λ here. not_both (eq q k) (λ there.
      let same : k ≡ e.0 = sym (same_key q k there) ∙ same_key q e.0 here in
      let tied : element_cmp k e.0 ≡ Equal = ap (element_cmp k) (sym same) ∙ (Equal-is (element_cmp k k)).0 ((eq_by_cmp_equiv element_cmp_total).refl k) in
      apart (is ∙ tied))) where
        apart : Greater ≡ Equal → ⊥
        apart h = cc

  pub at-inserted : (es : List (Element × ℕ)) → at (insert_entry element_cmp es k v) q ≡ cond (eq q k) (Some v) (at es q)
  at-inserted [] = refl
  at-inserted (e ∷ es) = insert_step e es (element_cmp k e.0) refl (at-inserted es)

one_test : (k x y : Element) → eq k x ≡ true → eq k y ≡ eq x y
one_test k x y h = ap (λ (z : Element). eq z y) (same_key k x h)

flipped : (k q : Element) → eq k q ≡ eq q k
flipped k q = (eq_by_cmp_equiv element_cmp_total).symm k q

pub at-removed : (k q : Element) (es : List (Element × ℕ)) → IsStrictlySortedBy element_cmp (keys_of es) → at (remove_entry (is_at (element_cmp k)) es) q ≡ cond (eq q k) None (at es q)
at-removed k q es s =
    lookup-remove_entry (eq_by_cmp_equiv element_cmp_total) (eq k) (one_test k) q es (IsDistinct-from_sorted element_cmp (keys_of es) s)
    ∙ ap (λ b. cond b None (at es q)) (flipped k q)

pub at-set : (k q : Element) (w : ℕ) (es : List (Element × ℕ)) → IsSome (at es k) → at (set_value (is_at (element_cmp k)) es w) q ≡ cond (eq q k) (Some w) (at es q)
at-set k q w es h =
    lookup-set_value (eq_by_cmp_equiv element_cmp_total) (eq k) (one_test k) q w es h
    ∙ ap (λ b. cond b (Some w) (at es q)) (flipped k q)

-- ---- counts

pub held_value : (m : ℕ) → unwrap_or (held m) 0 ≡ m
held_value zero = refl
held_value (suc m) = refl

pub held_some : (m : ℕ) → is_some (held m) ≡ nat_lt 0 m
held_some zero = refl
held_some (suc m) = sym (lt-ltb 0 (suc m) (omega arith))

pub some_held : (m : ℕ) → 0 < m → is_some (held m) ≡ true
some_held zero h = absurd (omega (arith, h))
some_held (suc m) h = refl

-- ---- sets

is_some-first : (b : Bool) (v : ℕ) (x : Option ℕ) → is_some (cond b (Some v) x) ≡ (b || is_some x)
is_some-first true v x = refl
is_some-first false v x = refl

is_some-none : (b : Bool) (x : Option ℕ) → is_some (cond b None x) ≡ cond b false (is_some x)
is_some-none true x = refl
is_some-none false x = refl

any_at : (es : List (Element × ℕ)) (q : Element) → list_any (is_at (element_cmp q)) (keys_of es) ≡ is_some (at es q)
any_at [] q = refl
any_at (e ∷ es) q = ap (λ b. eq q e.0 || b) (any_at es q) ∙ sym (is_some-first (eq q e.0) e.1 (at es q))

pub set_of : List (Element × ℕ) → set.ElementSet
set_of es = set.from_list (keys_of es)

pub contains-set_of : (es : List (Element × ℕ)) (q : Element) → set.contains (set.from_list (keys_of es)) q ≡ is_some (at es q)
contains-set_of es q = contains-from_tree (keys_of es) q ∙ any_at es q

set-inserted : (es : List (Element × ℕ)) (k : Element) (v : ℕ) → set.from_list (keys_of (insert_entry element_cmp es k v)) ≡ set.insert (set.from_list (keys_of es)) k
set-inserted es k v = set.same_set _ _ (λ q.
    contains-set_of (insert_entry element_cmp es k v) q ∙ ap is_some (at-inserted k v q es) ∙ is_some-first (eq q k) v (at es q)
    ∙ sym (contains-insert (set.from_list (keys_of es)) k q ∙ ap (λ b. eq q k || b) (contains-set_of es q)))

or_kept : (b c : Bool) → (b ≡ true → c ≡ true) → c ≡ (b || c)
or_kept true c h = h refl
or_kept false c h = refl

set-kept : (es : List (Element × ℕ)) (k : Element) → is_some (at es k) ≡ true → set.from_list (keys_of es) ≡ set.insert (set.from_list (keys_of es)) k
set-kept es k h = set.same_set _ _ (λ q.
    or_kept (eq q k) (set.contains (set.from_list (keys_of es)) q) (λ is. ap (set.contains (set.from_list (keys_of es))) (same_key q k is) ∙ contains-set_of es k ∙ h)
    ∙ sym (contains-insert (set.from_list (keys_of es)) k q))

not_not : (b : Bool) → false ≡ not b → b ≡ true
not_not true h = refl
not_not false h = cc

pub set_added : (old new : List (Element × ℕ)) (k : Element) (v : ℕ) (added : Bool) → added ≡ not (is_some (at old k)) → new ≡ (if added then insert_entry element_cmp old k v else old) → set.from_list (keys_of new) ≡ set.insert (set.from_list (keys_of old)) k
set_added old new k v true was is = ap (λ (es : List (Element × ℕ)). set.from_list (keys_of es)) is ∙ set-inserted old k v
set_added old new k v false was is = ap (λ (es : List (Element × ℕ)). set.from_list (keys_of es)) is ∙ set-kept old k (not_not (is_some (at old k)) was)

pub keys_added : (P : Element → Type 0) (old new : List (Element × ℕ)) (k : Element) (v : ℕ) (added : Bool) → new ≡ (if added then insert_entry element_cmp old k v else old) → All P (keys_of old) → P k → All P (keys_of new)
keys_added P old new k v true is a p = subst (λ (es : List (Element × ℕ)). All P (keys_of es)) (sym is) (All-keys-insert_entry element_cmp k v P old a p)
keys_added P old new k v false is a p = subst (λ (es : List (Element × ℕ)). All P (keys_of es)) (sym is) a

pub set_removed : (old new : List (Element × ℕ)) (k : Element) → IsStrictlySortedBy element_cmp (keys_of old) → new ≡ assigned old k 0 → set.from_list (keys_of new) ≡ set.remove (set.from_list (keys_of old)) k
set_removed old new k s is = ap (λ (es : List (Element × ℕ)). set.from_list (keys_of es)) is ∙ set.same_set _ _ (λ q.
    contains-set_of (remove_entry (is_at (element_cmp k)) old) q ∙ ap is_some (at-removed k q old s) ∙ is_some-none (eq q k) (at old q)
    ∙ sym (contains-remove (set.from_list (keys_of old)) k q ∙ ap (cond (eq q k) false) (contains-set_of old q)))

pub keys_removed : (P : Element → Type 0) (old new : List (Element × ℕ)) (k : Element) → new ≡ assigned old k 0 → All P (keys_of old) → All P (keys_of new)
keys_removed P old new k is a = subst (λ (es : List (Element × ℕ)). All P (keys_of es)) (sym is) (All-map-remove_entry (is_at (element_cmp k)) (λ e. e.0) P old a)

-- ---- bags

pub get-entries : (es : List (Element × ℕ)) (q : Element) → map.get (map.from_entries {R = element_cmp} es) q ≡ at es q
get-entries es q = get-from_tree element_cmp_total es q

pub count-entries : (es : List (Element × ℕ)) (b : bag.ElementBag) (q : Element) (m : ℕ) → map.from_entries es ≡ b → at es q ≡ held m → m ≡ bag.count b q
count-entries es b q m is has = sym (ap (λ (c : bag.ElementBag). bag.count c q) (sym is) ∙ ap (λ o. unwrap_or o 0) (get-entries es q ∙ has) ∙ held_value m)

bag-inserted : (es : List (Element × ℕ)) (k : Element) (v : ℕ) → map.from_entries {R = element_cmp} (insert_entry element_cmp es k v) ≡ map.insert (map.from_entries es) k v
bag-inserted es k v = map.same_map element_cmp_total element_cmp-IsAntisymmetric _ _ (λ q.
    get-entries (insert_entry element_cmp es k v) q ∙ at-inserted k v q es
    ∙ sym (map.get-insert element_cmp_total (map.from_entries es) k v q ∙ ap (cond (eq q k) (Some v)) (get-entries es q)))

set_count-positive : (b : bag.ElementBag) (k : Element) (n : ℕ) → 1 ≤ n → map.insert b k n ≡ bag.set_count b k n
set_count-positive b k zero h = absurd (omega (arith, h))
set_count-positive b k (suc n) h = refl

absent_is : (o : Option ℕ) (m : ℕ) → o ≡ held m → m ≡ 0 → o ≡ None
absent_is o zero is h = is
absent_is o (suc m) is h = absurd (omega (arith, h))

pub bag_added : (old new : List (Element × ℕ)) (b : bag.ElementBag) (k : Element) (n m : ℕ) (added : Bool) → 1 ≤ n → map.from_entries old ≡ b → at old k ≡ held m → m ≡ 0 → added ≡ not (is_some (at old k)) → new ≡ (if added then insert_entry element_cmp old k n else old) → map.from_entries {R = element_cmp} new ≡ bag.set_count b k n
bag_added old new b k n m true positive was has zero_is tells is =
    ap (λ (es : List (Element × ℕ)). map.from_entries {R = element_cmp} es) is ∙ bag-inserted old k n ∙ ap (λ (c : bag.ElementBag). map.insert c k n) was ∙ set_count-positive b k n positive
bag_added old new b k n m false positive was has zero_is tells is =
    cc (tells ∙ ap (λ o. not (is_some o)) (absent_is (at old k) m has zero_is))

pub values_added : (P : ℕ → Type 0) (old new : List (Element × ℕ)) (k : Element) (v : ℕ) (added : Bool) → new ≡ (if added then insert_entry element_cmp old k v else old) → All P (values_of old) → P v → All P (values_of new)
values_added P old new k v true is a p = subst (λ (es : List (Element × ℕ)). All P (values_of es)) (sym is) (All-values-insert_entry element_cmp k v P old a p)
values_added P old new k v false is a p = subst (λ (es : List (Element × ℕ)). All P (values_of es)) (sym is) a

pub values_put : {E : Type 0} (P : ℕ → Type 0) (r : Result Bool E) (old new : List (Element × ℕ)) (k : Element) (n : ℕ) → IfOk r (λ added. new ≡ (if added then insert_entry element_cmp old k n else old)) → OnErr r (new ≡ old) → All P (values_of old) → P n → All P (values_of new)
values_put P (Ok added) old new k n ok err a p = values_added P old new k n added ok a p
values_put P (Err e) old new k n ok err a p = subst (λ (es : List (Element × ℕ)). All P (values_of es)) (sym err) a

pub not_some : {A P : Type 0} (o : Option A) → o ≡ None → IsSome o → P
not_some None none some = cc some
not_some (Some x) none some = cc none

some_is : (o : Option ℕ) (m : ℕ) → o ≡ held m → 1 ≤ m → IsSome o
some_is o m is h = ap is_some is ∙ some_held m h

pub bag_assigned : (old new : List (Element × ℕ)) (b : bag.ElementBag) (k : Element) (n : ℕ) → IsStrictlySortedBy element_cmp (keys_of old) → map.from_entries old ≡ b → 1 ≤ bag.count b k → new ≡ assigned old k n → map.from_entries {R = element_cmp} new ≡ bag.set_count b k n
bag_assigned old new b k zero s was has is =
    ap (λ (es : List (Element × ℕ)). map.from_entries {R = element_cmp} es) is
    ∙ map.same_map element_cmp_total element_cmp-IsAntisymmetric _ _ (λ q.
    get-entries (remove_entry (is_at (element_cmp k)) old) q ∙ at-removed k q old s
    ∙ sym (map.get-remove element_cmp_total (map.from_entries old) k q ∙ ap (cond (eq q k) None) (get-entries old q)))
    ∙ ap (λ (c : bag.ElementBag). map.remove c k) was
bag_assigned old new b k (suc n) s was has is =
    ap (λ (es : List (Element × ℕ)). map.from_entries {R = element_cmp} es) is
    ∙ map.same_map element_cmp_total element_cmp-IsAntisymmetric _ _ (λ q.
    get-entries (set_value (is_at (element_cmp k)) old (suc n)) q ∙ at-set k q (suc n) old (there (at old k) (subst (λ (m : ℕ). 1 ≤ m) (ap (λ (c : bag.ElementBag). bag.count c k) (sym was) ∙ ap (λ o. unwrap_or o 0) (get-entries old k)) has))
    ∙ sym (map.get-insert element_cmp_total (map.from_entries old) k (suc n) q ∙ ap (cond (eq q k) (Some (suc n))) (get-entries old q)))
    ∙ ap (λ (c : bag.ElementBag). map.insert c k (suc n)) was where
      there : (o : Option ℕ) → 1 ≤ unwrap_or o 0 → IsSome o
      there None h = absurd (omega (arith, h))
      there (Some x) h = refl

pub keys_assigned : (P : Element → Type 0) (old new : List (Element × ℕ)) (k : Element) (n : ℕ) → new ≡ assigned old k n → All P (keys_of old) → All P (keys_of new)
keys_assigned P old new k zero is a = subst (λ (es : List (Element × ℕ)). All P (keys_of es)) (sym is) (All-map-remove_entry (is_at (element_cmp k)) (λ e. e.0) P old a)
keys_assigned P old new k (suc n) is a = subst (λ (es : List (Element × ℕ)). All P (keys_of es)) (sym is) (subst (λ (ks : List Element). All P ks) (sym (keys-set_value (is_at (element_cmp k)) old (suc n))) a)

pub values_assigned : (P : ℕ → Type 0) (old new : List (Element × ℕ)) (k : Element) (n : ℕ) → new ≡ assigned old k n → All P (values_of old) → ((m : ℕ) → n ≡ suc m → P n) → All P (values_of new)
values_assigned P old new k zero is a p = subst (λ (es : List (Element × ℕ)). All P (values_of es)) (sym is) (All-map-remove_entry (is_at (element_cmp k)) (λ e. e.1) P old a)
values_assigned P old new k (suc n) is a p = subst (λ (es : List (Element × ℕ)). All P (values_of es)) (sym is) (All-values-set_value (is_at (element_cmp k)) P old (suc n) a (p n refl))

first_absent : (b : Bool) (v : ℕ) (o : Option ℕ) → 0 < v → (unwrap_or o 0 ≡ 0 → o ≡ None) → unwrap_or (cond b (Some v) o) 0 ≡ 0 → cond b (Some v) o ≡ None
first_absent true v o some rest h = absurd (omega (arith, some, h))
first_absent false v o some rest h = rest h

-- an element with the count 0 isn't there
pub absent_at : (es : List (Element × ℕ)) (k : Element) → All bag.IsCount (values_of es) → unwrap_or (at es k) 0 ≡ 0 → at es k ≡ None
absent_at [] k a h = refl
absent_at (e ∷ es) k a h = first_absent (eq k e.0) e.1 (at es k) (a 0 0 (omega arith)).0 (absent_at es k (λ i d lt. a (suc i) d (omega (arith, lt)))) h

pub bag_first : (old new : List (Element × ℕ)) (b : bag.ElementBag) (k : Element) (n : ℕ) (added : Bool) → All bag.IsCount (values_of old) → 1 ≤ n → map.from_entries old ≡ b → bag.count b k ≡ 0 → added ≡ not (is_some (at old k)) → new ≡ (if added then insert_entry element_cmp old k n else old) → map.from_entries {R = element_cmp} new ≡ bag.set_count b k n
bag_first old new b k n added a positive was none tells is =
    bag_added old new b k n 0 added positive was (absent_at old k a (ap (λ o. unwrap_or o 0) (sym (get-entries old k)) ∙ ap (λ (c : bag.ElementBag). bag.count c k) was ∙ none)) refl tells is
