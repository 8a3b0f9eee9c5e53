-- Partial updates of bags as lists, by what they add and what they remove.
use Rattle.std.proofs.Common.{◌≡◌, ℕ, zero, suc, ◌+◌, ◌≤◌, ◌<◌, nat_lt, Bool, true, false, cond, not, ◌&&◌, ◌||◌, List, [], ◌∷◌, ◌++◌, map, length, refl, sym, ap, subst, ◌∙◌, arith, length-append, add-zero, zero-add}
use Rattle.std.specs.Prelude.{None, Some, All, T, unwrap_or, sum_by}
use Rattle.std.specs.FinMap as finite
use Rattle.std.specs.FinMap.Entries.{is_sorted, below_all, find, same_entries}
use Rattle.std.specs.List.{flat_map, list_all}
use Rattle.std.specs.Ordering.{eq_by_cmp, is_lt}
use Rattle.std.proofs.lemmas.Bool.{ltb-false, ltb-true, lt-ltb}
use Rattle.std.proofs.lemmas.List.Elements.{All-append, All-cons, All-head, All-nil, All-tail}
use Rattle.std.proofs.lemmas.List.Folds.{list_all-append}
use Rattle.std.proofs.lemmas.List.Sums.{sum_by-append}
use Rattle.asm_element.specs.Ascending.{both_T, none_below, not_among}
use Rattle.asm_element.specs.Bag.{ElementBag, IsCount, count, counts, elements, entries, lowered_to, raised_to, set_count}
use Rattle.asm_element.specs.Bag as bag
use Rattle.asm_element.specs.Element as element
use Rattle.asm_element.specs.Element.{element_cmp, element_cmp_total, element_cmp-IsAntisymmetric}
use Rattle.asm_element.specs.declared.element.Element.{Element}
use Rattle.asm_update.specs.Action.{is_of, AllProper, IsProper}
use Rattle.asm_update.specs.declared.action.Action.{Action}
use Rattle.asm_update.specs.declared.action.Action.TheVariants.{BagAdd, BagRemove}
use Rattle.asm_update.specs.declared.action.Family.TheVariants.{Bag}
use Rattle.asm_aggregate.specs.BagMeaning.{counted, element_of, named}
use Rattle.asm_aggregate.specs.Sets.{elements_by}
use Rattle.asm_aggregate.specs.laws.BagAlgebra.{Small, bag_small, has, held, small_held, summed}
use Rattle.asm_aggregate.specs.laws.SetAlgebra.{same_element}
use Rattle.asm_step.specs.Front.{bag_list, bag_update, bag_updates, so_many}
use Rattle.asm_step.proofs.SetLists.{two}

-- the updates of entries
abbrev pub updates : Bool → List (Element × ℕ) → List Action
updates adds es = flat_map (λ (e : Element × ℕ). so_many adds e.0 e.1) es

-- the function counts what is added of an element, or what is removed
pub record Counts (f : Element → Action → ℕ) (adds : Bool) : Type 0 where
  pub here : (q k : Element) (n : ℕ) → f q (bag_update adds k n) ≡ cond (eq_by_cmp element_cmp q k) n 0
  pub other : (q k : Element) (n : ℕ) → f q (bag_update (not adds) k n) ≡ 0

module _ (f : Element → Action → ℕ) (adds : Bool) (is : Counts f adds) (q : Element) where
  sum_one : (k : Element) (n : ℕ) → sum_by (f q) (so_many adds k n) ≡ cond (eq_by_cmp element_cmp q k) n 0
  sum_one k n = by_test (nat_lt 0 n) refl where
    none : (s : Bool) (m : ℕ) → m ≡ 0 → 0 ≡ cond s m 0
    none true m h = sym h
    none false m h = refl

    by_test : (t : Bool) → nat_lt 0 n ≡ t →
        sum_by (f q) (cond t (bag_update adds k n ∷ []) []) ≡ cond (eq_by_cmp element_cmp q k) n 0
    by_test true h = summed (f q) (bag_update adds k n) [] ∙ add-zero _ ∙ is.here q k n
    by_test false h = let l = ltb-false 0 n h in none (eq_by_cmp element_cmp q k) n (omega (arith, l))

  sum_none : (k : Element) (n : ℕ) → sum_by (f q) (so_many (not adds) k n) ≡ 0
  sum_none k n = by_test (nat_lt 0 n) where
    by_test : (t : Bool) → sum_by (f q) (cond t (bag_update (not adds) k n ∷ []) []) ≡ 0
    by_test true = summed (f q) (bag_update (not adds) k n) [] ∙ add-zero _ ∙ is.other q k n
    by_test false = refl

  sum_here : (es : List (Element × ℕ)) → T (is_sorted element_cmp es) →
      sum_by (f q) (updates adds es) ≡ unwrap_or (find element_cmp q es) 0
  sum_here [] h = refl
  sum_here (e ∷ es) h =
      let parts = both_T (below_all element_cmp e.0 es) (is_sorted element_cmp es) h in
      sum_by-append (f q) (so_many adds e.0 e.1) (updates adds es)
      ∙ two (λ n m. n + m) (sum_one e.0 e.1) (sum_here es parts.1)
      ∙ by_test (eq_by_cmp element_cmp q e.0) refl (none_below element_cmp e.0 es parts.0) where
        by_test : (s : Bool) → eq_by_cmp element_cmp q e.0 ≡ s → find element_cmp e.0 es ≡ None →
            cond s e.1 0 + unwrap_or (find element_cmp q es) 0 ≡ unwrap_or (cond s (Some e.1) (find element_cmp q es)) 0
        by_test true same none =
            ap (λ o. e.1 + unwrap_or o 0) (ap (λ k. find element_cmp k es) (same_element q e.0 same) ∙ none) ∙ add-zero e.1
        by_test false same none = zero-add _

  sum_there : (es : List (Element × ℕ)) → sum_by (f q) (updates (not adds) es) ≡ 0
  sum_there [] = refl
  sum_there (e ∷ es) =
      sum_by-append (f q) (so_many (not adds) e.0 e.1) (updates (not adds) es)
      ∙ two (λ n m. n + m) (sum_none e.0 e.1) (sum_there es)

  sum_bag : (b : ElementBag) → sum_by (f q) (bag_updates adds b) ≡ count b q
  sum_bag b = sum_here (entries b) (finite.entries_sorted b) ∙ ap (λ o. unwrap_or o 0) (sym (finite.get-entries b q))

pub sum_added : (f : Element → Action → ℕ) → Counts f true → (a r : ElementBag) (q : Element) →
    sum_by (f q) (bag_list a r) ≡ count a q
sum_added f is a r q =
    sum_by-append (f q) (bag_updates true a) (bag_updates false r)
    ∙ two (λ n m. n + m) (sum_bag f true is q a) (sum_there f true is q (entries r)) ∙ add-zero _

pub sum_removed : (f : Element → Action → ℕ) → Counts f false → (a r : ElementBag) (q : Element) →
    sum_by (f q) (bag_list a r) ≡ count r q
sum_removed f is a r q =
    sum_by-append (f q) (bag_updates true a) (bag_updates false r)
    ∙ two (λ n m. n + m) (sum_there f false is q (entries a)) (sum_bag f false is q r) ∙ zero-add _

-- all of them are of bags, and so many
bags_once : (adds : Bool) (k : Element) (n : ℕ) → list_all (is_of Bag) (so_many adds k n) ≡ true
bags_once adds k n = by_test adds (nat_lt 0 n) where
  by_test : (adds t : Bool) → list_all (is_of Bag) (cond t (bag_update adds k n ∷ []) []) ≡ true
  by_test true true = refl
  by_test false true = refl
  by_test adds false = refl

all_of_bags : (adds : Bool) (es : List (Element × ℕ)) → list_all (is_of Bag) (updates adds es) ≡ true
all_of_bags adds [] = refl
all_of_bags adds (e ∷ es) =
    list_all-append (is_of Bag) (so_many adds e.0 e.1) (updates adds es)
    ∙ (λ i. bags_once adds e.0 e.1 i && all_of_bags adds es i)

pub list_of_bags : (a r : ElementBag) → list_all (is_of Bag) (bag_list a r) ≡ true
list_of_bags a r =
    list_all-append (is_of Bag) (bag_updates true a) (bag_updates false r)
    ∙ (λ i. all_of_bags true (entries a) i && all_of_bags false (entries r) i)

once : (adds : Bool) (k : Element) (n : ℕ) → 0 < n → so_many adds k n ≡ bag_update adds k n ∷ []
once adds k n some = ap (λ t. cond t (bag_update adds k n ∷ []) []) (lt-ltb 0 n some)

many_updates : (adds : Bool) (es : List (Element × ℕ)) → All IsCount (map (λ e. e.1) es) →
    length (updates adds es) ≡ length es
many_updates adds [] all = refl
many_updates adds (e ∷ es) all =
    ap (λ xs. length (xs ++ updates adds es)) (once adds e.0 e.1 (All-head IsCount e.1 (map (λ e. e.1) es) all).0)
    ∙ ap suc (many_updates adds es (All-tail IsCount e.1 (map (λ e. e.1) es) all))

pub bag_length : (a r : ElementBag) → Small a → Small r → length (bag_list a r) ≡ finite.len a + finite.len r
bag_length a r one other =
    length-append (bag_updates true a) (bag_updates false r)
    ∙ two (λ n m. n + m) (many_updates true (entries a) (bag_small a one) ∙ sym (finite.len-entries a))
    (many_updates false (entries r) (bag_small r other) ∙ sym (finite.len-entries r))

-- actions that a program can hold
proper_once : (adds : Bool) (k : Element) (n : ℕ) → element.IsProper k → IsCount n → AllProper (so_many adds k n)
proper_once adds k n here is = subst AllProper (sym (once adds k n is.0)) (by_side adds) where
  by_side : (adds : Bool) → AllProper (bag_update adds k n ∷ [])
  by_side true = All-cons IsProper (BagAdd k n) [] (here, omega (arith, is.0), is.1) (All-nil IsProper)
  by_side false = All-cons IsProper (BagRemove k n) [] (here, omega (arith, is.0), is.1) (All-nil IsProper)

proper_updates : (adds : Bool) (es : List (Element × ℕ)) → All element.IsProper (map (λ e. e.0) es) →
    All IsCount (map (λ e. e.1) es) → AllProper (updates adds es)
proper_updates adds [] all are = All-nil IsProper
proper_updates adds (e ∷ es) all are =
    All-append IsProper (so_many adds e.0 e.1) (updates adds es)
    (proper_once adds e.0 e.1 (All-head element.IsProper e.0 (map (λ e. e.0) es) all) (All-head IsCount e.1 (map (λ e. e.1) es) are))
    (proper_updates adds es (All-tail element.IsProper e.0 (map (λ e. e.0) es) all) (All-tail IsCount e.1 (map (λ e. e.1) es) are))

pub proper_bags : (a r : ElementBag) → bag.IsProper a → bag.IsProper r → AllProper (bag_list a r)
proper_bags a r one other =
    All-append IsProper (bag_updates true a) (bag_updates false r) (proper_updates true (entries a) one.0 one.1)
    (proper_updates false (entries r) other.0 other.1)

-- the elements of a list in order, each with its number, if that isn't 0
module _ (f : Element → ℕ) where
  numbered : List (Element × Unit {0}) → List (Element × ℕ)
  numbered [] = []
  numbered (e ∷ es) = cond (nat_lt 0 (f e.0)) ((e.0, f e.0) ∷ numbered es) (numbered es)

  below_numbered : (k : Element) (es : List (Element × Unit {0})) → T (below_all element_cmp k es) →
      T (below_all element_cmp k (numbered es))
  unfolding numbered
  below_numbered k [] h = tt
  below_numbered k (e ∷ es) h =
      let parts = both_T (is_lt (element_cmp k e.0)) (below_all element_cmp k es) h in
      by_test (nat_lt 0 (f e.0)) parts.0 (below_numbered k es parts.1) where
        both_hold : (b c : Bool) → T b → T c → T (b && c)
        both_hold true c h k = k
        both_hold false c h k = absurd h

        by_test : (t : Bool) → T (is_lt (element_cmp k e.0)) → T (below_all element_cmp k (numbered es)) →
            T (below_all element_cmp k (cond t ((e.0, f e.0) ∷ numbered es) (numbered es)))
        by_test true less later = both_hold (is_lt (element_cmp k e.0)) (below_all element_cmp k (numbered es)) less later
        by_test false less later = later

  sorted_numbered : (es : List (Element × Unit {0})) → T (is_sorted element_cmp es) → T (is_sorted element_cmp (numbered es))
  unfolding numbered
  sorted_numbered [] h = tt
  sorted_numbered (e ∷ es) h =
      let parts = both_T (below_all element_cmp e.0 es) (is_sorted element_cmp es) h in
      by_test (nat_lt 0 (f e.0)) (below_numbered e.0 es parts.0) (sorted_numbered es parts.1) where
        both_hold : (b c : Bool) → T b → T c → T (b && c)
        both_hold true c h k = k
        both_hold false c h k = absurd h

        by_test : (t : Bool) → T (below_all element_cmp e.0 (numbered es)) → T (is_sorted element_cmp (numbered es)) →
            T (is_sorted element_cmp (cond t ((e.0, f e.0) ∷ numbered es) (numbered es)))
        by_test true below later = both_hold (below_all element_cmp e.0 (numbered es)) (is_sorted element_cmp (numbered es)) below later
        by_test false below later = later

  find_numbered : (es : List (Element × Unit {0})) (q : Element) → T (is_sorted element_cmp es) →
      find element_cmp q (numbered es) ≡ cond (has q (map (λ e. e.0) es)) (held (f q)) None
  unfolding numbered
  find_numbered [] q h = refl
  find_numbered (e ∷ es) q h =
      let parts = both_T (below_all element_cmp e.0 es) (is_sorted element_cmp es) h in
      by_tests (nat_lt 0 (f e.0)) refl (eq_by_cmp element_cmp q e.0) refl (not_among element_cmp e.0 es parts.0)
      (find_numbered es q parts.1) where
        some_held : (n : ℕ) → 0 < n → Some n ≡ held n
        some_held zero some = absurd (omega (arith, some))
        some_held (suc n) some = refl

        none_held : (n : ℕ) → n ≤ 0 → None ≡ held n
        none_held zero none = refl
        none_held (suc n) none = absurd (omega (arith, none))

        by_tests : (t : Bool) → nat_lt 0 (f e.0) ≡ t → (s : Bool) → eq_by_cmp element_cmp q e.0 ≡ s →
            has e.0 (map (λ e. e.0) es) ≡ false →
            find element_cmp q (numbered es) ≡ cond (has q (map (λ e. e.0) es)) (held (f q)) None →
            find element_cmp q (cond t ((e.0, f e.0) ∷ numbered es) (numbered es))
            ≡ cond (s || has q (map (λ e. e.0) es)) (held (f q)) None
        by_tests true some true same alone later =
            ap (λ b. cond b (Some (f e.0)) (find element_cmp q (numbered es))) same
            ∙ some_held (f e.0) (ltb-true 0 (f e.0) some) ∙ ap (λ k. held (f k)) (sym (same_element q e.0 same))
        by_tests true some false same alone later =
            ap (λ b. cond b (Some (f e.0)) (find element_cmp q (numbered es))) same ∙ later
        by_tests false none true same alone later =
            later ∙ ap (λ b. cond b (held (f q)) None) (ap (λ k. has k (map (λ e. e.0) es)) (same_element q e.0 same) ∙ alone)
            ∙ none_held (f e.0) (ltb-false 0 (f e.0) none) ∙ ap (λ k. held (f k)) (sym (same_element q e.0 same))
        by_tests false none false same alone later = later

  update_numbered : (adds : Bool) (es : List (Element × Unit {0})) →
      map (λ e. bag_update adds e (f e)) (counted f (map (λ e. e.0) es)) ≡ updates adds (numbered es)
  unfolding numbered
  update_numbered adds [] = refl
  update_numbered adds (e ∷ es) = by_test (nat_lt 0 (f e.0)) refl (update_numbered adds es) where
    by_test : (t : Bool) → nat_lt 0 (f e.0) ≡ t →
        map (λ e. bag_update adds e (f e)) (counted f (map (λ e. e.0) es)) ≡ updates adds (numbered es) →
        map (λ e. bag_update adds e (f e)) (cond t (e.0 ∷ counted f (map (λ e. e.0) es)) (counted f (map (λ e. e.0) es)))
        ≡ updates adds (cond t ((e.0, f e.0) ∷ numbered es) (numbered es))
    by_test true some later =
        ap (λ xs. bag_update adds e.0 (f e.0) ∷ xs) later
        ∙ ap (λ xs. xs ++ updates adds (numbered es)) (sym (once adds e.0 (f e.0) (ltb-true 0 (f e.0) some)))
    by_test false none later = later

  -- the updates by these numbers are those of the bag that has them
  pub side_is : (adds : Bool) (xs : List Action) (b : ElementBag) → Small b → ((q : Element) → f q ≡ count b q) →
      ((q : Element) → has q (named xs) ≡ false → f q ≡ 0) →
      map (λ e. bag_update adds e (f e)) (counted f (named xs)) ≡ bag_updates adds b
  side_is adds xs b small is outside =
      let es = finite.entries (elements_by element_of xs) in
      let sorted = finite.entries_sorted (elements_by element_of xs) in
      update_numbered adds es
      ∙ ap (updates adds) (same_entries element_cmp element_cmp_total element_cmp-IsAntisymmetric (numbered es) (entries b)
      (sorted_numbered es sorted) (finite.entries_sorted b)
      (λ q. find_numbered es q sorted ∙ by_test q (has q (named xs)) refl
      ∙ ap held (is q) ∙ sym (small_held b q small) ∙ finite.get-entries b q)) where
        by_test : (q : Element) (t : Bool) → has q (named xs) ≡ t → cond t (held (f q)) None ≡ held (f q)
        by_test q true h = refl
        by_test q false h = ap held (sym (outside q h))
