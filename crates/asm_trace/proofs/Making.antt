-- What differs between two sets, or two bags, one element at a time; a change, made on the old value, makes the new one.
use Rattle.std.proofs.Common.{◌≡◌, ◌≢◌, ◌<◌, ◌+◌, take, length, ℕ, Bool, true, false, cond, not, ◌&&◌, ◌||◌, List, [], ◌∷◌, ◌++◌, map, refl, sym, ap, ◌∙◌, append_assoc, arith, All}
use Rattle.std.specs.Prelude.{Option, Some, None, is_some, filter, nat_eq, unwrap_or}
use Rattle.std.proofs.lemmas.Bool.{eqb-true, eq-eqb, false≢true}
use Rattle.std.specs.List.{list_any, range_with_len}
use Rattle.std.proofs.lemmas.List.{take_more, map-append}
use Rattle.std.proofs.lemmas.List.Elements.{filter-append, All-nil, All-cons, All-head, All-tail}
use Rattle.std.proofs.lemmas.List.FromFn.{length-range_with_len, get_or-range_with_len}
use Rattle.std.specs.FinMap as finite
use Rattle.std.specs.Ordering.{eq_by_cmp}
use Rattle.std.proofs.lemmas.List.Folds.{list_any-append}
use Rattle.serde_json.specs.Data.{Data}
use Rattle.asm_element.specs.Bag as bag
use Rattle.asm_element.specs.Bag.{ElementBag, count}
use Rattle.asm_element.specs.Element.{element_cmp, element_cmp-IsAntisymmetric}
use Rattle.asm_element.specs.Set as set
use Rattle.asm_element.specs.Set.{ElementSet, empty, contains, insert, same_set}
use Rattle.asm_element.specs.Tests.{or_false, neither}
use Rattle.asm_element.specs.declared.element.Element.{Element}
use Rattle.asm_element.proofs.SetTree.{contains-insert}
use Rattle.asm_aggregate.specs.laws.SetAlgebra.{same_element, contains-empty, contains-from_list, contains-elements, contains-with_elements, contains-difference, all_members}
use Rattle.asm_element.specs.Place.{Place}
use Rattle.asm_element.specs.declared.value.Value.{Value}
use Rattle.asm_update.specs.Fire.{Old}
use Rattle.asm_update.specs.State.{Updates}
use Rattle.asm_journal.specs.Shape.{list_of}
use Rattle.asm_trace.specs.Change.{Change, either, differ_at, differing, recount, recounts, change_of, changes_by, is_missing, without, made, with_counts, Recount}
use Rattle.asm_trace.specs.Text.{recount_json_of, change_json_of, changes_json_of, WithoutListsDifference, RecountsListCounts}
use Rattle.asm_element.specs.Value as value
use Rattle.asm_element.specs.declared.value.Value.TheVariants as values
use Rattle.asm_aggregate.specs.BagMeaning.{recounted}
use Rattle.asm_aggregate.specs.Sets.{difference, with_elements}
use Rattle.asm_aggregate.specs.laws.BagAlgebra.{held, small_held, small_bag, Small, get-recounted, same_counts}

-- whether a list has an element
abbrev pub has : Element → List Element → Bool
has e es = list_any (eq_by_cmp element_cmp e) es

-- one item less is left of those that pass a test
pub left_passing : {X : Type 0} (f : X → Data) (p : X → Bool) (done new all : List Data) (x : X) (rest left : List X) →
    left ≡ x ∷ rest → done ++ map f (filter p left) ≡ all → new ≡ done ++ map f (filter p (x ∷ [])) →
    new ++ map f (filter p rest) ≡ all
left_passing f p done new all x rest left step so_far added =
    ap (λ t. t ++ map f (filter p rest)) added ∙ append_assoc done (map f (filter p (x ∷ []))) (map f (filter p rest))
    ∙ ap (λ t. done ++ t) (by_test (p x)) ∙ ap (λ l. done ++ map f (filter p l)) (sym step) ∙ so_far where
      by_test : (b : Bool) →
          map f (cond b (x ∷ []) []) ++ map f (filter p rest) ≡ map f (cond b (x ∷ filter p rest) (filter p rest))
      by_test true = refl
      by_test false = refl

-- one more of the numbers below n is told, if it passes the test
pub positions_more : (f : ℕ → Data) (p : ℕ → Bool) (i n : ℕ) (old new : List Data) → i < n →
    old ≡ map f (filter p (take i (range_with_len 0 n))) → new ≡ old ++ map f (filter p (i ∷ [])) →
    new ≡ map f (filter p (take (i + 1) (range_with_len 0 n)))
positions_more f p i n old new within so_far added =
    let xs = range_with_len 0 n in
    let inside : i < length xs = rw (length-range_with_len 0 n) within in
    let here : 0 + i ≡ i = omega arith in
    let more : take (i + 1) xs ≡ take i xs ++ i ∷ [] =
    take_more xs i i inside ∙ ap (λ y. take i xs ++ y ∷ []) (get_or-range_with_len 0 n i i within ∙ here) in
    added ∙ ap (λ o. o ++ map f (filter p (i ∷ []))) so_far
    ∙ sym (ap (λ l. map f (filter p l)) more ∙ ap (map f) (filter-append p (take i xs) (i ∷ []))
    ∙ map-append f (filter p (take i xs)) (filter p (i ∷ [])))

-- ---- bags

-- the element of an item of a bag
abbrev pub element_in : Element × ℕ → Element
element_in p = p.0

module _ (a b : ElementBag) where
  pub differ_from : (x : Element) (m n : ℕ) → m ≡ count a x → n ≡ count b x → m ≢ n → differ_at a b x ≡ true
  differ_from x m n one two other = at (nat_eq (count a x) (count b x)) refl where
    at : (i : Bool) → nat_eq (count a x) (count b x) ≡ i → not i ≡ true
    at true is = absurd (other (one ∙ eqb-true (count a x) (count b x) is ∙ sym two))
    at false is = refl

  pub alike_from : (x : Element) (m n : ℕ) → m ≡ count a x → n ≡ count b x → m ≡ n → differ_at a b x ≡ false
  alike_from x m n one two same = ap not (eq-eqb (count a x) (count b x) (sym one ∙ same ∙ two))

  -- an element at which the bags differ comes into the set
  pub noted : (s n : ElementSet) (x e : Element) → differ_at a b x ≡ true → n ≡ insert s x →
      contains n e ≡ (contains s e || (eq_by_cmp element_cmp e x && differ_at a b e))
  noted s n x e differ new = ap (λ u. contains u e) new ∙ contains-insert s x e ∙ at (eq_by_cmp element_cmp e x) refl where
    either_way : (t : Bool) → true ≡ (t || true)
    either_way true = refl
    either_way false = refl

    at : (i : Bool) → eq_by_cmp element_cmp e x ≡ i → (i || contains s e) ≡ (contains s e || (i && differ_at a b e))
    at true i =
        let here : differ_at a b e ≡ true = ap (differ_at a b) (same_element e x i) ∙ differ in
        either_way (contains s e) ∙ ap (λ t. contains s e || t) (sym here)
    at false i = sym (or_false (contains s e))

  -- and no other does
  pub unnoted : (s : ElementSet) (x e : Element) → differ_at a b x ≡ false →
      contains s e ≡ (contains s e || (eq_by_cmp element_cmp e x && differ_at a b e))
  unnoted s x e alike = sym (or_false (contains s e)) ∙ ap (λ t. contains s e || t) (at (eq_by_cmp element_cmp e x) refl) where
    at : (i : Bool) → eq_by_cmp element_cmp e x ≡ i → false ≡ (i && differ_at a b e)
    at true i = sym (ap (differ_at a b) (same_element e x i) ∙ alike)
    at false i = refl

  -- a set into which elements of one list are still to go, where the bags differ, is as another with another list
  pub record AreAlike (s : ElementSet) (left : List Element) (t : ElementSet) (all : List Element) : Type 0 where
    pub same : (e : Element) → (contains s e || (has e left && differ_at a b e)) ≡ (contains t e || (has e all && differ_at a b e))

  one_come : (i s d l : Bool) → ((s || (i && d)) || (l && d)) ≡ (s || ((i || l) && d))
  one_come true true d l = refl
  one_come true false true l = refl
  one_come true false false true = refl
  one_come true false false false = refl
  one_come false true d l = refl
  one_come false false d l = refl

  pub alike_more : (s n t : ElementSet) (left rest all : List Element) (x : Element) → left ≡ x ∷ rest →
      ((e : Element) → contains n e ≡ (contains s e || (eq_by_cmp element_cmp e x && differ_at a b e))) →
      AreAlike s left t all → AreAlike n rest t all
  alike_more s n t left rest all x is new had = record {
    same = λ e.
        ap (λ u. u || (has e rest && differ_at a b e)) (new e)
        ∙ one_come (eq_by_cmp element_cmp e x) (contains s e) (differ_at a b e) (has e rest)
        ∙ ap (λ l. contains s e || (has e l && differ_at a b e)) (sym is) ∙ had.same e;
  }

  pub alike_all : (s t : ElementSet) (left all whole : List Element) → left ≡ [] → all ≡ whole → AreAlike s left t all →
      (e : Element) → contains s e ≡ (contains t e || (has e whole && differ_at a b e))
  alike_all s t left all whole none start had e =
      sym (ap (λ l. contains s e || (has e l && differ_at a b e)) none ∙ or_false (contains s e)) ∙ had.same e
      ∙ ap (λ l. contains t e || (has e l && differ_at a b e)) start

  pub contains-differing : (e : Element) → contains (differing a b) e
      ≡ ((has e (bag.elements a) || has e (bag.elements b)) && differ_at a b e)
  contains-differing e =
      ap is_some (finite.get-retain_keys (either a b) (differ_at a b) e
      (λ x tie. ap (differ_at a b) (sym (element_cmp-IsAntisymmetric e x tie))))
      ∙ is_some-kept (differ_at a b e) (finite.get (either a b) e)
      ∙ ap (λ t. t && differ_at a b e)
      (contains-from_list (bag.elements a ++ bag.elements b) e
      ∙ list_any-append (eq_by_cmp element_cmp e) (bag.elements a) (bag.elements b)) where
        is_some-kept : (t : Bool) (o : Option (Unit {0})) → is_some (cond t o None) ≡ (is_some o && t)
        is_some-kept true None = refl
        is_some-kept true (Some u) = refl
        is_some-kept false None = refl
        is_some-kept false (Some u) = refl

  both_come : (p q d : Bool) → ((p && d) || (q && d)) ≡ ((p || q) && d)
  both_come true true true = refl
  both_come true true false = refl
  both_come true false true = refl
  both_come true false false = refl
  both_come false q d = refl

  -- the elements of both bags at which they differ
  pub differing_is : (none first both : ElementSet) → none ≡ empty →
      ((e : Element) → contains first e ≡ (contains none e || (has e (bag.elements a) && differ_at a b e))) →
      ((e : Element) → contains both e ≡ (contains first e || (has e (bag.elements b) && differ_at a b e))) →
      both ≡ differing a b
  differing_is none first both start one two = same_set _ _ (λ e.
      two e ∙ ap (λ t. t || (has e (bag.elements b) && differ_at a b e))
      (one e ∙ ap (λ t. t || (has e (bag.elements a) && differ_at a b e)) (ap (λ s. contains s e) start ∙ contains-empty e))
      ∙ both_come (has e (bag.elements a)) (has e (bag.elements b)) (differ_at a b e) ∙ sym (contains-differing e))

-- the JSON of both counts of each element at which two bags differ
pub recounts_json_is : (a b : ElementBag) → map (λ e. recount_json_of (recount a b e)) (set.elements (differing a b))
    ≡ map recount_json_of (recounts a b)
recounts_json_is a b = each (set.elements (differing a b)) where
  each : (es : List Element) → map (λ e. recount_json_of (recount a b e)) es ≡ map recount_json_of (map (recount a b) es)
  each [] = refl
  each (e ∷ es) = ap (λ ds. recount_json_of (recount a b e) ∷ ds) (each es)

-- ---- updates

-- the JSON of what an update changes
abbrev pub update_json_of : Old → Place × Value → Data
update_json_of old p = change_json_of p.0 (change_of (old p.0) p.1)

-- that of each update is that of what they change
pub updates_json_is : (old : Old) (U : Updates) → list_of (map (update_json_of old) (finite.entries U)) ≡ changes_json_of (changes_by old U)
updates_json_is old U = ap list_of (each (finite.entries U)) where
  each : (es : List (Place × Value)) → map (update_json_of old) es
      ≡ map (λ (c : Place × Change). change_json_of c.0 c.1) (map (λ p. (p.0, change_of (old p.0) p.1)) es)
  each [] = refl
  each (e ∷ es) = ap (λ ds. update_json_of old e ∷ ds) (each es)

-- ---- sets

has-filter : (p : Element → Bool) (es : List Element) (q : Element) → has q (filter p es) ≡ (has q es && p q)
has-filter p [] q = refl
has-filter p (e ∷ es) q = at (p e) refl (has-filter p es q) where
  found : (i t b : Bool) → (i ≡ true → b ≡ true) → (i || (t && b)) ≡ ((i || t) && b)
  found true t b here = sym (here refl)
  found false t b here = refl

  passed_over : (i t b : Bool) → (i ≡ true → b ≡ false) → (t && b) ≡ ((i || t) && b)
  passed_over true true b here = refl
  passed_over true false b here = sym (here refl)
  passed_over false t b here = refl

  at : (b : Bool) → p e ≡ b → has q (filter p es) ≡ (has q es && p q) →
      has q (cond b (e ∷ filter p es) (filter p es)) ≡ ((eq_by_cmp element_cmp q e || has q es) && p q)
  at true is later =
      ap (λ t. eq_by_cmp element_cmp q e || t) later
      ∙ found (eq_by_cmp element_cmp q e) (has q es) (p q) (λ i. ap p (same_element q e i) ∙ is)
  at false is later =
      later ∙ passed_over (eq_by_cmp element_cmp q e) (has q es) (p q) (λ i. ap p (same_element q e i) ∙ is)

pub has-without : (s t : ElementSet) (q : Element) → has q (without s t) ≡ (contains s q && not (contains t q))
has-without s t q =
    has-filter (is_missing t) (set.elements s) q ∙ ap (λ b. b && not (contains t q)) (sym (contains-elements s q))

becomes : (s t : Bool) → ((s && not (s && not t)) || (t && not s)) ≡ t
becomes true true = refl
becomes true false = refl
becomes false true = refl
becomes false false = refl

set_made : (s t : ElementSet) →
    with_elements (difference s (set.from_list (without s t))) (without t s) ≡ t
set_made s t = same_set _ _ (λ q.
    contains-with_elements (difference s (set.from_list (without s t))) (without t s) q
    ∙ (λ i. (contains-difference s (set.from_list (without s t)) q
    ∙ ap (λ b. contains s q && not b) (contains-from_list (without s t) q ∙ has-without s t q)) i
    || has-without t s q i)
    ∙ becomes (contains s q) (contains t q))

-- ---- bags

none_counted : (b : ElementBag) (q : Element) → has q (bag.elements b) ≡ false → count b q ≡ 0
none_counted b q h = at (finite.get b q) (finite.contains_key-keys b q ∙ h) where
  at : (o : Option ℕ) → is_some o ≡ false → unwrap_or o 0 ≡ 0
  at None is = refl
  at (Some n) is = cc

-- bags that differ at no element of theirs differ at none
pub same_count : (a b : ElementBag) (q : Element) →
    ((has q (bag.elements a) || has q (bag.elements b)) && differ_at a b q) ≡ false → count a q ≡ count b q
same_count a b q h = at (nat_eq (count a q) (count b q)) refl h where
  only : (t : Bool) → (t && true) ≡ false → t ≡ false
  only true h = h
  only false h = refl

  at : (i : Bool) → nat_eq (count a q) (count b q) ≡ i →
      ((has q (bag.elements a) || has q (bag.elements b)) && not i) ≡ false → count a q ≡ count b q
  at true is h = eqb-true (count a q) (count b q) is
  at false is h =
      let both = neither (has q (bag.elements a)) (has q (bag.elements b)) (only _ h) in
      none_counted a q both.0 ∙ sym (none_counted b q both.1)

counts_are : (a b : ElementBag) (es : List Element) → with_counts a (map (recount a b) es) ≡ recounted a (count b) es
counts_are a b [] = refl
counts_are a b (e ∷ es) = ap (λ c. bag.set_count c e (count b e)) (counts_are a b es)

bag_made : (a b : ElementBag) → Small a → Small b → with_counts a (recounts a b) ≡ b
bag_made a b sa sb =
    counts_are a b (set.elements (differing a b)) ∙ same_counts _ _ (λ q.
    get-recounted a (count b) (set.elements (differing a b)) q
    ∙ at q (has q (set.elements (differing a b))) (sym (contains-differing a b q) ∙ contains-elements (differing a b) q)) where
      at : (q : Element) (i : Bool) →
          ((has q (bag.elements a) || has q (bag.elements b)) && differ_at a b q) ≡ i →
          cond i (held (count b q)) (finite.get a q) ≡ finite.get b q
      at q true is = sym (small_held b q sb)
      at q false is = small_held a q sa ∙ ap held (same_count a b q is) ∙ sym (small_held b q sb)

-- ---- values

pub change_made : (old new : Value) → value.IsProper old → value.IsProper new → made (change_of old new) old ≡ new
change_made (values.Set s) (values.Set t) po pn = ap values.Set (set_made s t)
change_made (values.Bag a) (values.Bag b) po pn = ap values.Bag (bag_made a b (small_bag a po.1) (small_bag b pn.1))
change_made old new po pn = refl

-- ---- what is told is so

-- what passes a test among items that are so
all_passing : (P Q : Element → Type 0) (p : Element → Bool) (es : List Element) → All P es →
    ((e : Element) → P e → p e ≡ true → Q e) → All Q (filter p es)
all_passing P Q p [] h each = All-nil Q
all_passing P Q p (e ∷ es) h each =
    at (p e) refl (all_passing P Q p es (All-tail P e es h) each) where
      at : (b : Bool) → p e ≡ b → All Q (filter p es) → All Q (cond b (e ∷ filter p es) (filter p es))
      at true is later = All-cons Q e (filter p es) (each e (All-head P e es h) is) later
      at false is later = later

pub without_reports : WithoutListsDifference
without_reports s t =
    all_passing (λ e. contains s e ≡ true) (λ e. (contains s e ≡ true) × (contains t e ≡ false)) (is_missing t) (set.elements s)
    (all_members (λ e. contains s e ≡ true) s (λ q is. is)) (λ e there is. (there, missing (contains t e) is)) where
      missing : (b : Bool) → not b ≡ true → b ≡ false
      missing true is = sym is
      missing false is = refl

all_mapped : {X Y : Type 0} (P : X → Type 0) (Q : Y → Type 0) (f : X → Y) (xs : List X) → All P xs →
    ((x : X) → P x → Q (f x)) → All Q (map f xs)
all_mapped P Q f [] h each = All-nil Q
all_mapped P Q f (x ∷ xs) h each =
    All-cons Q (f x) (map f xs) (each x (All-head P x xs h)) (all_mapped P Q f xs (All-tail P x xs h) each)

pub recounts_tell : RecountsListCounts
recounts_tell a b =
    all_mapped (λ e. contains (differing a b) e ≡ true)
    (λ (r : Recount). (r.before ≡ count a r.element) × (r.after ≡ count b r.element) × (r.before ≢ r.after)) (recount a b) (set.elements (differing a b))
    (all_members (λ e. contains (differing a b) e ≡ true) (differing a b) (λ q is. is))
    (λ e there. (
      refl,
      refl,
      other (count a e) (count b e) (has e (bag.elements a) || has e (bag.elements b))
          (sym (contains-differing a b e) ∙ there),
    )) where
      other : (m n : ℕ) (t : Bool) → (t && not (nat_eq m n)) ≡ true → m ≢ n
      other m n true is = λ same. false≢true (ap not (sym (eq-eqb m n same)) ∙ is)
      other m n false is = λ same. false≢true is
