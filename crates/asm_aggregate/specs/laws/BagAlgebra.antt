-- Counts of the bags and lists that the definitions of bag updates make.
use Rattle.std.proofs.Common.{◌≡◌, ℕ, zero, suc, ◌+◌, ◌<◌, ◌^◌, Bool, true, false, cond, ◌&&◌, ◌||◌, List, [], ◌∷◌}
use Rattle.std.proofs.Common.{map, refl, sym, ap, subst, ◌∙◌, arith, add-zero, zero-add, nat_lt}
use Rattle.std.specs.Prelude.{Option, None, Some, unwrap_or, IfSome, is_some, sum_by, All, IsPermutation, T}
use Rattle.std.specs.Ordering.{eq_by_cmp}
use Rattle.std.specs.List.{list_any, list_all}
use Rattle.std.specs.FinMap as finite
use Rattle.std.specs.FinMap.Entries.{is_sorted, below_all, is_some-find, find}
use Rattle.std.proofs.lemmas.Bool.Decides.{nat_tests}
use Rattle.std.proofs.lemmas.List.Elements.{All-nil, All-cons, All-head, All-tail}
use Rattle.std.proofs.lemmas.List.Folds.{list_all-append}
use Rattle.std.proofs.lemmas.List.Sums.{sum_by-append}
use Rattle.std.proofs.lemmas.Map.Views.{All-from_any}
use Rattle.asm_element.specs.Element as element
use Rattle.asm_element.specs.Ascending.{both_T, not_among}
use Rattle.asm_element.specs.Tests.{itself, neither}
use Rattle.asm_element.specs.Element.{element_cmp, element_cmp_total, element_cmp-IsAntisymmetric, element_eq-equiv}
use Rattle.asm_element.specs.declared.element.Element.{Element}
use Rattle.asm_element.specs.Set as set
use Rattle.asm_element.specs.Bag as bag
use Rattle.asm_element.specs.Bag.{ElementBag, count, set_count, IsCount}
use Rattle.asm_update.specs.Action.{is_of, IsProper, AllProper}
use Rattle.asm_update.specs.declared.action.Action.{Action}
use Rattle.asm_update.specs.declared.action.Action.TheVariants.{BagAdd, BagRemove}
use Rattle.asm_update.specs.declared.action.Family.TheVariants.{Bag}
use Rattle.asm_aggregate.specs.Side.{other}
use Rattle.asm_aggregate.specs.Sets.{elements_by}
use Rattle.asm_aggregate.specs.Steps.{names}
use Rattle.asm_aggregate.specs.BagMeaning.{amount, amount_in, element_of, named, new_count, recounted, renewed, counted}
use Rattle.asm_aggregate.specs.BagMeaning.{bag_action, bag_side, bag_actions}
use Rattle.asm_aggregate.specs.declared.side.Side.{Side}
use Rattle.asm_aggregate.specs.declared.side.Side.TheVariants.{Added, Removed}
use Rattle.asm_aggregate.specs.laws.SetAlgebra.{same_element, contains-elements, contains-elements_by, found}
use Rattle.asm_aggregate.specs.laws.SetAlgebra.{none_found}
use Rattle.asm_aggregate.specs.laws.SetAlgebra.{all_found, elements_by-IsPermutation, elements_by_proper}

-- whether a list has an element
abbrev pub has : Element → List Element → Bool
has q es = list_any (eq_by_cmp element_cmp q) es

pub has-names : (actions : List Action) (q : Element) → has q (named actions) ≡ list_any (names q) actions
has-names actions q =
    sym (contains-elements (elements_by element_of actions) q) ∙ contains-elements_by element_of actions q

-- a sum, one action at a time
pub summed : (f : Action → ℕ) (x : Action) (xs : List Action) → sum_by f (x ∷ xs) ≡ f x + sum_by f xs
summed f x xs = let e = sum_by-append f (x ∷ []) xs in omega (arith, e)

not_at : (b : Bool) (n : ℕ) → b ≡ false → cond b n 0 ≡ 0
not_at b n h = ap (λ b. cond b n 0) h

pub no_amount : (side : Side) (x : Action) (q : Element) → names q x ≡ false → amount side q x ≡ 0
no_amount Added (BagAdd x n) q h = not_at _ n h
no_amount Removed (BagRemove x n) q h = not_at _ n h
no_amount side x q h = refl

no_amounts : (side : Side) (xs : List Action) (q : Element) → list_any (names q) xs ≡ false → amount_in side xs q ≡ 0
no_amounts side [] q h = refl
no_amounts side (x ∷ xs) q h =
    let both = neither (names q x) (list_any (names q) xs) h in
    summed (amount side q) x xs ∙ (λ i. no_amount side x q both.0 i + no_amounts side xs q both.1 i)

-- an element that isn't named is neither added nor removed
pub unnamed : (side : Side) (actions : List Action) (q : Element) → has q (named actions) ≡ false →
    amount_in side actions q ≡ 0
unnamed side actions q h = no_amounts side actions q (sym (has-names actions q) ∙ h)

pub fails_everywhere : (p : Element → Bool) (es : List Element) → list_any p es ≡ false →
    ((q : Element) → has q es ≡ false → p q ≡ false) → (q : Element) → p q ≡ false
fails_everywhere p es h outside q = at (has q es) refl where
  at : (b : Bool) → has q es ≡ b → p q ≡ false
  at true k = found p es q h k
  at false k = outside q k

pub none_passes : (p : Element → Bool) (es : List Element) → ((q : Element) → p q ≡ false) → list_any p es ≡ false
none_passes p es h = none_found p es (λ q _. h q)

-- what a bag holds where it counts n
abbrev pub held : ℕ → Option ℕ
held zero = None
held (suc n) = Some (suc n)

pub held_count : (n : ℕ) → unwrap_or (held n) 0 ≡ n
held_count zero = refl
held_count (suc n) = refl

pub get-set_count : (b : ElementBag) (e : Element) (n : ℕ) (q : Element) →
    finite.get (set_count b e n) q ≡ cond (eq_by_cmp element_cmp q e) (held n) (finite.get b q)
get-set_count b e zero q = finite.get-remove element_cmp_total b e q
get-set_count b e (suc n) q = finite.get-insert element_cmp_total b e (suc n) q

pub get-recounted : (b : ElementBag) (f : Element → ℕ) (es : List Element) (q : Element) →
    finite.get (recounted b f es) q ≡ cond (has q es) (held (f q)) (finite.get b q)
get-recounted b f [] q = refl
get-recounted b f (e ∷ es) q =
    get-set_count (recounted b f es) e (f e) q ∙ at (eq_by_cmp element_cmp q e) refl (get-recounted b f es q) where
      at : (i : Bool) → eq_by_cmp element_cmp q e ≡ i →
          finite.get (recounted b f es) q ≡ cond (has q es) (held (f q)) (finite.get b q) →
          cond i (held (f e)) (finite.get (recounted b f es) q) ≡ cond (i || has q es) (held (f q)) (finite.get b q)
      at true i later = ap (λ x. held (f x)) (sym (same_element q e i))
      at false i later = later

-- each count is one that a bag can hold
abbrev pub Small : ElementBag → Type 0
Small b = (q : Element) → IfSome (finite.get b q) IsCount

pub small_held : (b : ElementBag) (q : Element) → Small b → finite.get b q ≡ held (count b q)
small_held b q h = at (finite.get b q) (h q) where
  at : (o : Option ℕ) → IfSome o IsCount → o ≡ held (unwrap_or o 0)
  at None h = refl
  at (Some zero) h = absurd (omega (arith, h.0))
  at (Some (suc n)) h = refl

pub small_below : (b : ElementBag) (q : Element) → Small b → count b q < 2 ^ 32
small_below b q h = at (finite.get b q) (h q) where
  at : (o : Option ℕ) → IfSome o IsCount → unwrap_or o 0 < 2 ^ 32
  at None h = omega arith
  at (Some n) h = h.1

pub small_counts : (b : ElementBag) → ((q : Element) → finite.get b q ≡ held (count b q)) →
    ((q : Element) → count b q < 2 ^ 32) → Small b
small_counts b is below q = subst (λ (o : Option ℕ). IfSome o IsCount) (sym (is q)) (at (count b q) (below q)) where
  at : (n : ℕ) → n < 2 ^ 32 → IfSome (held n) IsCount
  at zero h = tt
  at (suc n) h = (omega arith, h)

-- what the bag after the actions holds at each element
pub get-renewed : (b : ElementBag) (actions : List Action) (q : Element) → Small b →
    finite.get (renewed b actions) q ≡ held (new_count b actions q)
get-renewed b actions q h =
    get-recounted b (new_count b actions) (named actions) q ∙ at (has q (named actions)) refl where
      at : (i : Bool) → has q (named actions) ≡ i →
          cond i (held (new_count b actions q)) (finite.get b q) ≡ held (new_count b actions q)
      at true i = refl
      at false i =
          let gone = unnamed Removed actions q i in
          let come = unnamed Added actions q i in
          let same : count b q ≡ new_count b actions q = omega (arith, gone, come) in
          small_held b q h ∙ ap held same

pub count-renewed : (b : ElementBag) (actions : List Action) (q : Element) → Small b →
    count (renewed b actions) q ≡ new_count b actions q
count-renewed b actions q h = ap (λ o. unwrap_or o 0) (get-renewed b actions q h) ∙ held_count (new_count b actions q)

pub small_renewed : (b : ElementBag) (actions : List Action) → Small b →
    ((q : Element) → new_count b actions q < 2 ^ 32) → Small (renewed b actions)
small_renewed b actions h small =
    small_counts (renewed b actions) (λ q. get-renewed b actions q h ∙ ap held (sym (count-renewed b actions q h)))
    (λ q. subst (λ (n : ℕ). n < 2 ^ 32) (sym (count-renewed b actions q h)) (small q))

pub same_counts : (b c : ElementBag) → ((q : Element) → finite.get b q ≡ finite.get c q) → b ≡ c
same_counts b c h = finite.same_map element_cmp_total element_cmp-IsAntisymmetric b c h

-- lists in order have each element once
abbrev first_of : {X : Type 0} → List (Element × X) → List Element
first_of es = map (λ e. e.0) es

-- the counts of a bag, one by one and at each element
found_count : (P : ℕ → Type 0) (es : List (Element × ℕ)) (q : Element) → All P (map (λ e. e.1) es) →
    IfSome (find element_cmp q es) P
found_count P [] q h = tt
found_count P (e ∷ es) q h =
    at (eq_by_cmp element_cmp q e.0) (All-head P e.1 (map (λ e. e.1) es) h)
    (found_count P es q (All-tail P e.1 (map (λ e. e.1) es) h)) where
      at : (b : Bool) → P e.1 → IfSome (find element_cmp q es) P → IfSome (cond b (Some e.1) (find element_cmp q es)) P
      at true h k = h
      at false h k = k

pub small_bag : (b : ElementBag) → All IsCount (bag.counts b) → Small b
small_bag b h q =
    subst (λ (o : Option ℕ). IfSome o IsCount) (sym (finite.get-entries b q))
    (found_count IsCount (finite.entries b) q h)

all_counts : (P : ℕ → Type 0) (es : List (Element × ℕ)) → T (is_sorted element_cmp es) →
    ((q : Element) → IfSome (find element_cmp q es) P) → All P (map (λ e. e.1) es)
all_counts P [] sorted h = All-nil P
all_counts P (e ∷ es) sorted h =
    let both = both_T (below_all element_cmp e.0 es) (is_sorted element_cmp es) sorted in
    All-cons P e.1 (map (λ e. e.1) es)
    (subst (λ (b : Bool). IfSome (cond b (Some e.1) (find element_cmp e.0 es)) P) (itself element_cmp_total e.0)
    (h e.0))
    (all_counts P es both.1
    (λ q. at q (eq_by_cmp element_cmp q e.0) refl (not_among element_cmp e.0 es both.0) (h q))) where
      nothing : (o : Option ℕ) → is_some o ≡ false → IfSome o P
      nothing None h = tt
      nothing (Some n) h = cc

      at : (q : Element) (b : Bool) → eq_by_cmp element_cmp q e.0 ≡ b → has e.0 (first_of es) ≡ false →
          IfSome (cond b (Some e.1) (find element_cmp q es)) P → IfSome (find element_cmp q es) P
      at q true i alone h =
          nothing (find element_cmp q es)
          (is_some-find element_cmp q es ∙ ap (λ x. has x (first_of es)) (same_element q e.0 i) ∙ alone)
      at q false i alone h = h

pub bag_small : (b : ElementBag) → Small b → All IsCount (bag.counts b)
bag_small b h =
    all_counts IsCount (finite.entries b) (finite.entries_sorted b)
    (λ q. subst (λ (o : Option ℕ). IfSome o IsCount) (finite.get-entries b q) (h q))

-- the amounts at each place of an element
abbrev total : (Element → ℕ) → List Element → Element → ℕ
total f [] q = 0
total f (k ∷ ks) q = cond (eq_by_cmp element_cmp q k) (f k) 0 + total f ks q

total_without : (f : Element → ℕ) (ks : List Element) (q : Element) → has q ks ≡ false → total f ks q ≡ 0
total_without f [] q h = refl
total_without f (k ∷ ks) q h =
    let both = neither (eq_by_cmp element_cmp q k) (has q ks) h in
    ap (λ m. m + total f ks q) (not_at _ (f k) both.0) ∙ zero-add _ ∙ total_without f ks q both.1

total_sorted : (f : Element → ℕ) (es : List (Element × Unit {0})) (q : Element) → T (is_sorted element_cmp es) →
    total f (first_of es) q ≡ cond (has q (first_of es)) (f q) 0
total_sorted f [] q h = refl
total_sorted f (e ∷ es) q h =
    let both = both_T (below_all element_cmp e.0 es) (is_sorted element_cmp es) h in
    at (eq_by_cmp element_cmp q e.0) refl (not_among element_cmp e.0 es both.0) (total_sorted f es q both.1) where
      at : (b : Bool) → eq_by_cmp element_cmp q e.0 ≡ b → has e.0 (first_of es) ≡ false →
          total f (first_of es) q ≡ cond (has q (first_of es)) (f q) 0 →
          cond b (f e.0) 0 + total f (first_of es) q ≡ cond (b || has q (first_of es)) (f q) 0
      at true i alone later =
          let same = same_element q e.0 i in
          ap (λ n. f e.0 + n) (total_without f (first_of es) q (ap (λ x. has x (first_of es)) same ∙ alone))
          ∙ add-zero (f e.0) ∙ ap f (sym same)
      at false i alone later = zero-add _ ∙ later

nothing : (b : Bool) (n m : ℕ) → m ≡ 0 → cond b m 0 + n ≡ n
nothing true n m h = omega arith
nothing false n m h = omega arith

-- one side's actions have its amounts, and none of the other side's
pub amount-bag_action : (side : Side) (q k : Element) (n : ℕ) →
    amount side q (bag_action side k n) ≡ cond (eq_by_cmp element_cmp q k) n 0
amount-bag_action Added q k n = refl
amount-bag_action Removed q k n = refl

other_amount : (side : Side) (q k : Element) (n : ℕ) → amount side q (bag_action (other side) k n) ≡ 0
other_amount Added q k n = refl
other_amount Removed q k n = refl

module _ (side : Side) (f : Element → ℕ) where
  amount-bag_side : (ks : List Element) (q : Element) → amount_in side (bag_side side f ks) q ≡ total f ks q
  amount-bag_side [] q = refl
  amount-bag_side (k ∷ ks) q = at (nat_lt 0 (f k)) refl (amount-bag_side ks q) where
    at : (b : Bool) → nat_lt 0 (f k) ≡ b → amount_in side (bag_side side f ks) q ≡ total f ks q →
        amount_in side (map (λ e. bag_action side e (f e)) (cond b (k ∷ counted f ks) (counted f ks))) q
        ≡ cond (eq_by_cmp element_cmp q k) (f k) 0 + total f ks q
    at true i later =
        summed (amount side q) (bag_action side k (f k)) (bag_side side f ks)
        ∙ (λ i. amount-bag_action side q k (f k) i + later i)
    at false i later =
        later ∙ sym (nothing (eq_by_cmp element_cmp q k) (total f ks q) (f k) (grind (arith, nat_tests)))

  other_amounts : (ks : List Element) (q : Element) →
      amount_in side (map (λ e. bag_action (other side) e (f e)) ks) q ≡ 0
  other_amounts [] q = refl
  other_amounts (k ∷ ks) q =
      summed (amount side q) (bag_action (other side) k (f k)) (map (λ e. bag_action (other side) e (f e)) ks)
      ∙ (λ i. other_amount side q k (f k) i + other_amounts ks q i)

total_named : (f : Element → ℕ) (actions : List Action) (q : Element) → (has q (named actions) ≡ false → f q ≡ 0) →
    total f (named actions) q ≡ f q
total_named f actions q h =
    total_sorted f (finite.entries (elements_by element_of actions)) q
    (finite.entries_sorted (elements_by element_of actions)) ∙ at (has q (named actions)) refl where
      at : (b : Bool) → has q (named actions) ≡ b → cond b (f q) 0 ≡ f q
      at true i = refl
      at false i = sym (h i)

-- the actions that represent amounts have them
pub amount-bag_actions : (side : Side) (f : Side → Element → ℕ) (actions : List Action) (q : Element) →
    (has q (named actions) ≡ false → f side q ≡ 0) → amount_in side (bag_actions f (named actions)) q ≡ f side q
amount-bag_actions Added f actions q h =
    let es = named actions in
    sum_by-append (amount Added q) (bag_side Added (f Added) es) (bag_side Removed (f Removed) es)
    ∙ (λ i. (amount-bag_side Added (f Added) es q ∙ total_named (f Added) actions q h) i
    + other_amounts Added (f Removed) (counted (f Removed) es) q i) ∙ add-zero (f Added q)
amount-bag_actions Removed f actions q h =
    let es = named actions in
    sum_by-append (amount Removed q) (bag_side Added (f Added) es) (bag_side Removed (f Removed) es)
    ∙ (λ i. other_amounts Removed (f Added) (counted (f Added) es) q i
    + (amount-bag_side Removed (f Removed) es q ∙ total_named (f Removed) actions q h) i) ∙ zero-add (f Removed q)

all_on : (side : Side) (f : Element → ℕ) (ks : List Element) →
    list_all (is_of Bag) (map (λ e. bag_action side e (f e)) ks) ≡ true
all_on side f [] = refl
all_on Added f (k ∷ ks) = all_on Added f ks
all_on Removed f (k ∷ ks) = all_on Removed f ks

pub all-bag_actions : (f : Side → Element → ℕ) (es : List Element) → list_all (is_of Bag) (bag_actions f es) ≡ true
all-bag_actions f es =
    list_all-append (is_of Bag) (bag_side Added (f Added) es) (bag_side Removed (f Removed) es)
    ∙ (λ i. all_on Added (f Added) (counted (f Added) es) i && all_on Removed (f Removed) (counted (f Removed) es) i)

-- reordered actions name the same elements
pub named-IsPermutation : (xs ys : List Action) → IsPermutation xs ys → named ys ≡ named xs
named-IsPermutation xs ys p = ap set.elements (elements_by-IsPermutation element_of xs ys p)

-- the elements of an updated bag are well-formed
element_proper : (x : Action) → IsProper x → IfSome (element_of x) element.IsProper
element_proper (BagAdd e n) h = h.0
element_proper (BagRemove e n) h = h.0
element_proper x h = tt

pub renewed_elements : (b : ElementBag) (actions : List Action) →
    All element.IsProper (bag.elements b) → AllProper actions → All element.IsProper (bag.elements (renewed b actions))
renewed_elements b actions there h =
    All-from_any element_eq-equiv element.IsProper (bag.elements (renewed b actions))
    (λ q one. at q (has q (named actions)) refl
    (ap is_some (sym (get-recounted b (new_count b actions) (named actions) q))
    ∙ finite.contains_key-keys (renewed b actions) q ∙ one)) where
      at : (q : Element) (i : Bool) → has q (named actions) ≡ i →
          is_some (cond (has q (named actions)) (held (new_count b actions q)) (finite.get b q)) ≡ true →
          element.IsProper q
      at q true i k =
          elements_by_proper element_of element_proper actions q h
          (contains-elements (elements_by element_of actions) q ∙ i)
      at q false i k =
          let there_too : is_some (finite.get b q) ≡ true =
          sym (ap (λ t. is_some (cond t (held (new_count b actions q)) (finite.get b q))) i) ∙ k in
          all_found element.IsProper (bag.elements b) q there (sym (finite.contains_key-keys b q) ∙ there_too)
