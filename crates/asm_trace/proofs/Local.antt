-- Partial updates of sets, bags and counters change what they name alone.
use Rattle.std.proofs.Common.{◌≡◌, ℕ, ℤ, ◌+◌, ◌-◌, Bool, true, false, cond, not, ◌&&◌, ◌||◌, List, [], ◌∷◌, map}
use Rattle.std.proofs.Common.{refl, sym, ap, subst, ◌∙◌}
use Rattle.std.specs.Prelude.{Option, Some, None, Ok, Err, unwrap_or, filter, nat_eq, nat_lt}
use Rattle.std.specs.FinMap as finite
use Rattle.std.specs.FinMap.Entries.{where_key, is_sorted-where_key}
use Rattle.std.specs.List.{list_any, list_all}
use Rattle.std.specs.Ordering.{eq_by_cmp}
use Rattle.std.proofs.lemmas.Bool.{eq-eqb, false≢true}
use Rattle.asm_element.specs.Bag as bag
use Rattle.asm_element.specs.Bag.{ElementBag, count}
use Rattle.asm_element.specs.Element.{element_cmp, element_cmp_total}
use Rattle.asm_element.specs.Set as set
use Rattle.asm_element.specs.Set.{ElementSet, contains, same_set}
use Rattle.asm_element.specs.Tests.{itself, or_true}
use Rattle.asm_element.specs.declared.element.Element.{Element}
use Rattle.asm_element.specs.declared.value.Value.{Value}
use Rattle.asm_element.specs.declared.value.Value.TheVariants as values
use Rattle.asm_update.specs.Action.{is_of}
use Rattle.asm_update.specs.Aggregator.{Meaning}
use Rattle.asm_update.specs.Fire.{Part, GroupResult}
use Rattle.asm_update.specs.declared.action.Action.{Action}
use Rattle.asm_update.specs.declared.action.Action.TheVariants.{Regular, SetAdd, SetRemove, BagAdd, BagRemove, Increment}
use Rattle.asm_update.specs.declared.action.Family.{Family}
use Rattle.asm_update.specs.declared.action.Family.TheVariants.{Set, Bag, Count}
use Rattle.asm_update.specs.declared.clash.Cause.TheVariants.{Mixed, Kind, Both, Short, Large}
use Rattle.asm_aggregate.specs.BagMeaning.{named, new_count, recounted, is_large, bag_result, bag_meaning}
use Rattle.asm_aggregate.specs.CountMeaning.{count_result, count_meaning}
use Rattle.asm_aggregate.specs.Families.{common_family}
use Rattle.asm_aggregate.specs.PairMeaning.{by_owner, pair_meaning}
use Rattle.asm_aggregate.specs.SetMeaning.{adds_and_removes, updated, set_result, set_meaning}
use Rattle.asm_aggregate.specs.Sets.{is_the, union, difference, elements_by}
use Rattle.asm_aggregate.specs.Steps as steps
use Rattle.asm_aggregate.specs.laws.BagAlgebra.{has, has-names, held, held_count, get-recounted}
use Rattle.asm_aggregate.specs.laws.SetAlgebra.{contains-elements, contains-elements_by, contains_updated}
use Rattle.asm_trace.specs.Change.{OfSet, OfBag, is_missing, without, differ_at, differing, recount, recounts, names, is_named, AreSameTo, change_by, IsLocal}
use Rattle.asm_aggregate.specs.Standard.{standard_meaning, standard_part}
use Rattle.asm_trace.proofs.Making.{contains-differing, has-without, same_count}

-- ---- lists

any_weaker : {X : Type 0} (p q : X → Bool) (xs : List X) → ((x : X) → p x ≡ true → q x ≡ true) → list_any p xs ≡ true →
    list_any q xs ≡ true
any_weaker p q [] each h = absurd (false≢true h)
any_weaker p q (x ∷ xs) each h = at (p x) refl h (any_weaker p q xs each) where
  at : (b : Bool) → p x ≡ b → (b || list_any p xs) ≡ true → (list_any p xs ≡ true → list_any q xs ≡ true) →
      list_any q (x ∷ xs) ≡ true
  at true is k later = ap (λ t. t || list_any q xs) (each x is)
  at false is k later = ap (λ t. q x || t) (later k) ∙ or_true (q x)

has_first : (e : Element) (es : List Element) → has e (e ∷ es) ≡ true
has_first e es = ap (λ t. t || has e es) (itself element_cmp_total e)

has_rest : (e x : Element) (es : List Element) → has e es ≡ true → has e (x ∷ es) ≡ true
has_rest e x es h = ap (λ t. eq_by_cmp element_cmp e x || t) h ∙ or_true (eq_by_cmp element_cmp e x)

any_same : (p q : Element → Bool) (es : List Element) → ((e : Element) → has e es ≡ true → p e ≡ q e) →
    list_any p es ≡ list_any q es
any_same p q [] each = refl
any_same p q (e ∷ es) each =
    ap (λ t. t || list_any p es) (each e (has_first e es))
    ∙ ap (λ t. q e || t) (any_same p q es (λ x h. each x (has_rest x e es h)))

map_same : {Y : Type 0} (f g : Element → Y) (es : List Element) → ((e : Element) → has e es ≡ true → f e ≡ g e) →
    map f es ≡ map g es
map_same f g [] each = refl
map_same f g (e ∷ es) each =
    ap (λ y. y ∷ map f es) (each e (has_first e es))
    ∙ ap (λ ys. g e ∷ ys) (map_same f g es (λ x h. each x (has_rest x e es h)))

-- ---- sets

-- the elements of a set that pass a test, as a set
abbrev passed : ElementSet → (Element → Bool) → ElementSet
passed s p = finite.from_sorted (where_key element_cmp p (finite.entries s))

passing : (s : ElementSet) (p : Element → Bool) → set.elements (passed s p) ≡ filter p (set.elements s)
passing s p =
    ap (map (λ (e : Element × Unit {0}). e.0))
    (finite.entries-from_sorted element_cmp (where_key element_cmp p (finite.entries s))
    (is_sorted-where_key element_cmp p (finite.entries s) (finite.entries_sorted s)))
    ∙ each (finite.entries s) where
      each : (es : List (Element × Unit {0})) → map (λ e. e.0) (where_key element_cmp p es) ≡ filter p (map (λ e. e.0) es)
      each [] = refl
      each (e ∷ es) = at (p e.0) (each es) where
        at : (b : Bool) → map (λ e. e.0) (where_key element_cmp p es) ≡ filter p (map (λ e. e.0) es) →
            map (λ e. e.0) (cond b (e ∷ where_key element_cmp p es) (where_key element_cmp p es))
            ≡ cond b (e.0 ∷ filter p (map (λ e. e.0) es)) (filter p (map (λ e. e.0) es))
        at true rest = ap (λ l. e.0 ∷ l) rest
        at false rest = rest

contains-passed : (s t : ElementSet) (e : Element) →
    contains (passed s (is_missing t)) e ≡ (contains s e && not (contains t e))
contains-passed s t e =
    contains-elements (passed s (is_missing t)) e ∙ ap (has e) (passing s (is_missing t)) ∙ has-without s t e

-- what one set has that another lacks depends on the tests of elements alone
same_without : (s t u v : ElementSet) →
    ((e : Element) → (contains s e && not (contains t e)) ≡ (contains u e && not (contains v e))) → without s t ≡ without u v
same_without s t u v is =
    sym (passing s (is_missing t))
    ∙ ap set.elements (same_set (passed s (is_missing t)) (passed u (is_missing v)) (λ e.
    contains-passed s t e ∙ is e ∙ sym (contains-passed u v e)))
    ∙ passing u (is_missing v)

comes : (s a r : Bool) → (((s && not r) || a) && not s) ≡ (a && not s)
comes true true true = refl
comes true true false = refl
comes true false true = refl
comes true false false = refl
comes false a r = refl

goes : (s a r : Bool) → (s && not ((s && not r) || a)) ≡ (r && (s && not a))
goes true true true = refl
goes true true false = refl
goes true false true = refl
goes true false false = refl
goes false a true = refl
goes false a false = refl

only_where : (b x y : Bool) → (b ≡ true → x ≡ y) → (b && x) ≡ (b && y)
only_where true x y h = h refl
only_where false x y h = refl

-- the element that the function has of an action is one that the action names
record AreNamed (f : Action → Option Element) : Type 0 where
  of_set_add : (e y : Element) → is_the e (f (SetAdd y)) ≡ true → eq_by_cmp element_cmp e y ≡ true
  of_set_remove : (e y : Element) → is_the e (f (SetRemove y)) ≡ true → eq_by_cmp element_cmp e y ≡ true
  of_regular : (e : Element) (v : Value) → is_the e (f (Regular v)) ≡ true → false ≡ true
  of_bag_add : (e y : Element) (n : ℕ) → is_the e (f (BagAdd y n)) ≡ true → false ≡ true
  of_bag_remove : (e y : Element) (n : ℕ) → is_the e (f (BagRemove y n)) ≡ true → false ≡ true
  of_increment : (e : Element) (n : ℤ) → is_the e (f (Increment n)) ≡ true → false ≡ true

module _ (f : Action → Option Element) (those : AreNamed f) where
  names_those : (e : Element) (x : Action) → is_the e (f x) ≡ true → names e x ≡ true
  names_those e (SetAdd y) h = those.of_set_add e y h
  names_those e (SetRemove y) h = those.of_set_remove e y h
  names_those e (Regular v) h = those.of_regular e v h
  names_those e (BagAdd y n) h = absurd (false≢true (those.of_bag_add e y n h))
  names_those e (BagRemove y n) h = absurd (false≢true (those.of_bag_remove e y n h))
  names_those e (Increment n) h = those.of_increment e n h

  named_by : (ps : List Action) (e : Element) → contains (elements_by f ps) e ≡ true → is_named ps e ≡ true
  named_by ps e h =
      any_weaker (λ x. is_the e (f x)) (names e) ps (names_those e) (sym (contains-elements_by f ps e) ∙ h)

module _ (s t a r : ElementSet) (ps : List Action) (alike : (e : Element) → is_named ps e ≡ true → contains s e ≡ contains t e)
    (adds : (e : Element) → contains a e ≡ true → is_named ps e ≡ true)
    (removes : (e : Element) → contains r e ≡ true → is_named ps e ≡ true) where
  abbrev after : ElementSet → ElementSet
  after u = union (difference u r) a

  comes_alike : without (after t) t ≡ without (after s) s
  comes_alike = same_without (after t) t (after s) s (λ e.
      ap (λ b. b && not (contains t e)) (contains_updated t a r e)
      ∙ comes (contains t e) (contains a e) (contains r e)
      ∙ only_where (contains a e) (not (contains t e)) (not (contains s e)) (λ h. ap not (sym (alike e (adds e h))))
      ∙ sym (comes (contains s e) (contains a e) (contains r e))
      ∙ ap (λ b. b && not (contains s e)) (sym (contains_updated s a r e)))

  goes_alike : without t (after t) ≡ without s (after s)
  goes_alike = same_without t (after t) s (after s) (λ e.
      ap (λ b. contains t e && not b) (contains_updated t a r e)
      ∙ goes (contains t e) (contains a e) (contains r e)
      ∙ only_where (contains r e) (contains t e && not (contains a e)) (contains s e && not (contains a e))
      (λ h. ap (λ b. b && not (contains a e)) (sym (alike e (removes e h))))
      ∙ sym (goes (contains s e) (contains a e) (contains r e))
      ∙ ap (λ b. contains s e && not b) (sym (contains_updated s a r e)))

  sets_alike : change_by (values.Set t) (Ok (values.Set (after t))) ≡ change_by (values.Set s) (Ok (values.Set (after s)))
  sets_alike = λ i. Some (OfSet (comes_alike i) (goes_alike i))

-- what an update adds and what it removes are the elements that functions have of its actions
updated_alike : (ps : List Action) (s t : ElementSet) (f g : Action → Option Element) →
    updated t ps ≡ union (difference t (elements_by g ps)) (elements_by f ps) →
    updated s ps ≡ union (difference s (elements_by g ps)) (elements_by f ps) → AreNamed f → AreNamed g →
    ((e : Element) → is_named ps e ≡ true → contains s e ≡ contains t e) →
    change_by (values.Set t) (Ok (values.Set (updated t ps))) ≡ change_by (values.Set s) (Ok (values.Set (updated s ps)))
updated_alike ps s t f g one other adds removes alike =
    ap (λ u. change_by (values.Set t) (Ok (values.Set u))) one
    ∙ sets_alike s t (elements_by f ps) (elements_by g ps) ps alike (named_by f adds ps) (named_by g removes ps)
    ∙ ap (λ u. change_by (values.Set s) (Ok (values.Set u))) (sym other)

-- the same value changes alike
same_value : (part : Part) (v w : Value) (ps : List Action) → v ≡ w → change_by w (part w None ps) ≡ change_by v (part v None ps)
same_value part v w ps is = ap (λ x. change_by x (part x None ps)) (sym is)

set_local : IsLocal set_meaning.part
set_local (values.Set s) (values.Set t) ps alike =
    by_tests (not (list_all (is_of Set) ps)) (adds_and_removes ps) where
      by_tests : (b c : Bool) →
          change_by (values.Set t) (cond b (Err Mixed) (cond c (Err Both) (Ok (values.Set (updated t ps)))))
          ≡ change_by (values.Set s) (cond b (Err Mixed) (cond c (Err Both) (Ok (values.Set (updated s ps)))))
      by_tests true c = refl
      by_tests false true = refl
      by_tests false false =
          updated_alike ps s t _ _ refl refl
          (record {
            of_set_add = λ e y h. h;
            of_set_remove = λ e y h. absurd (false≢true h);
            of_regular = λ e v h. h;
            of_bag_add = λ e y n h. h;
            of_bag_remove = λ e y n h. h;
            of_increment = λ e n h. h;
          })
          (record {
            of_set_add = λ e y h. absurd (false≢true h);
            of_set_remove = λ e y h. h;
            of_regular = λ e v h. h;
            of_bag_add = λ e y n h. h;
            of_bag_remove = λ e y n h. h;
            of_increment = λ e n h. h;
          })
          alike
set_local (values.Bag a) (values.Bag b) ps alike = by_test (not (list_all (is_of Set) ps)) where
  by_test : (c : Bool) → change_by (values.Bag b) (cond c (Err Mixed) (Err Kind)) ≡ change_by (values.Bag a) (cond c (Err Mixed) (Err Kind))
  by_test true = refl
  by_test false = refl
set_local v w ps alike = same_value set_result v w ps alike

-- ---- bags

bag_names : (e : Element) (x : Action) → steps.names e x ≡ true → names e x ≡ true
bag_names e (BagAdd y n) h = h
bag_names e (BagRemove y n) h = h
bag_names e x h = cc

named_in : (ps : List Action) (e : Element) → has e (named ps) ≡ true → is_named ps e ≡ true
named_in ps e h = any_weaker (steps.names e) (names e) ps (bag_names e) (sym (has-names ps e) ∙ h)

count-recounted : (b : ElementBag) (f : Element → ℕ) (es : List Element) (e : Element) →
    count (recounted b f es) e ≡ cond (has e es) (f e) (count b e)
count-recounted b f es e = ap (λ o. unwrap_or o 0) (get-recounted b f es e) ∙ at (has e es) where
  at : (i : Bool) → unwrap_or (cond i (held (f e)) (finite.get b e)) 0 ≡ cond i (f e) (count b e)
  at true = held_count (f e)
  at false = refl

-- an element at which bags differ is in one of them
differing_at : (a b : ElementBag) (e : Element) → contains (differing a b) e ≡ differ_at a b e
differing_at a b e = contains-differing a b e ∙ at (has e (bag.elements a) || has e (bag.elements b)) (differ_at a b e) (same_count a b e) refl where
  at : (t d : Bool) → ((t && d) ≡ false → count a e ≡ count b e) → d ≡ differ_at a b e → (t && d) ≡ d
  at true d same is = refl
  at false d same is = sym (is ∙ ap not (eq-eqb (count a e) (count b e) (same refl)))

-- counts that differ are the same where both counts are, and elsewhere none do
same_recounts : (a b c d : ElementBag) → ((e : Element) → differ_at a b e ≡ differ_at c d e) →
    ((e : Element) → differ_at c d e ≡ true → (count a e ≡ count c e) × (count b e ≡ count d e)) → recounts a b ≡ recounts c d
same_recounts a b c d tests counts =
    ap (λ s. map (recount a b) (set.elements s))
    (same_set (differing a b) (differing c d) (λ e. differing_at a b e ∙ tests e ∙ sym (differing_at c d e)))
    ∙ map_same (recount a b) (recount c d) (set.elements (differing c d)) (λ e h. one e
    (counts e (sym (differing_at c d e) ∙ contains-elements (differing c d) e ∙ h))) where
      one : (e : Element) → (count a e ≡ count c e) × (count b e ≡ count d e) → recount a b e ≡ recount c d e
      one e (before, after) = λ i. record { element = e; before = before i; after = after i }

module _ (ps : List Action) (a b : ElementBag) (alike : (e : Element) → is_named ps e ≡ true → count a e ≡ count b e)
    (removed added : Element → ℕ) (sums : (c : ElementBag) (e : Element) → new_count c ps e ≡ (count c e - removed e) + added e)
  where
    abbrev here : List Element
    here = named ps

    abbrev new : ElementBag → ElementBag
    new c = recounted c (new_count c ps) here

    held_alike : (e : Element) → has e here ≡ true → count a e ≡ count b e
    held_alike e h = alike e (named_in ps e h)

    new_alike : (e : Element) → has e here ≡ true → new_count a ps e ≡ new_count b ps e
    new_alike e h = sums a e ∙ ap (λ n. (n - removed e) + added e) (held_alike e h) ∙ sym (sums b e)

    kept_count : (c : ElementBag) (e : Element) → has e here ≡ false → count (new c) e ≡ count c e
    kept_count c e h = count-recounted c (new_count c ps) here e ∙ ap (λ t. cond t (new_count c ps e) (count c e)) h

    new_is : (c : ElementBag) (e : Element) → has e here ≡ true → count (new c) e ≡ new_count c ps e
    new_is c e h = count-recounted c (new_count c ps) here e ∙ ap (λ t. cond t (new_count c ps e) (count c e)) h

    new_same : (e : Element) → has e here ≡ true → count (new a) e ≡ count (new b) e
    new_same e h = new_is a e h ∙ new_alike e h ∙ sym (new_is b e h)

    undiffering : (c : ElementBag) (e : Element) → has e here ≡ false → differ_at c (new c) e ≡ false
    undiffering c e h = ap not (eq-eqb (count c e) (count (new c) e) (sym (kept_count c e h)))

    differ_alike : (e : Element) → differ_at b (new b) e ≡ differ_at a (new a) e
    differ_alike e = at (has e here) refl where
      at : (i : Bool) → has e here ≡ i → differ_at b (new b) e ≡ differ_at a (new a) e
      at true h = λ i. not (nat_eq (sym (held_alike e h) i) (sym (new_same e h) i))
      at false h = undiffering b e h ∙ sym (undiffering a e h)

    recounts_alike : recounts b (new b) ≡ recounts a (new a)
    recounts_alike = same_recounts b (new b) a (new a) differ_alike (λ e d. at e d (has e here) refl) where
      at : (e : Element) → differ_at a (new a) e ≡ true → (i : Bool) → has e here ≡ i →
          (count b e ≡ count a e) × (count (new b) e ≡ count (new a) e)
      at e d true h = (sym (held_alike e h), sym (new_same e h))
      at e d false h = absurd (false≢true (sym (undiffering a e h) ∙ d))

    abbrev is_short : ElementBag → Bool
    is_short c = list_any (λ e. nat_lt (count c e) (removed e)) here

    abbrev is_above : ElementBag → Bool
    is_above c = list_any (λ e. is_large (new_count c ps e)) here

    short_alike : is_short b ≡ is_short a
    short_alike = any_same _ _ here (λ e h. ap (λ n. nat_lt n (removed e)) (sym (held_alike e h)))

    above_alike : is_above b ≡ is_above a
    above_alike = any_same _ _ here (λ e h. ap is_large (sym (new_alike e h)))

    abbrev outcome : Bool → Bool → Bool → ElementBag → GroupResult
    outcome m s l c = cond m (Err Mixed) (cond s (Err Short) (cond l (Err Large) (Ok (values.Bag (new c)))))

    by_tests : (m s l : Bool) → change_by (values.Bag b) (outcome m s l b) ≡ change_by (values.Bag a) (outcome m s l a)
    by_tests true s l = refl
    by_tests false true l = refl
    by_tests false false true = refl
    by_tests false false false = ap (λ rs. Some (OfBag rs)) recounts_alike

    bags_local : (m : Bool) → change_by (values.Bag b) (outcome m (is_short b) (is_above b) b)
        ≡ change_by (values.Bag a) (outcome m (is_short a) (is_above a) a)
    bags_local m =
        (λ i. change_by (values.Bag b) (outcome m (short_alike i) (above_alike i) b)) ∙ by_tests m (is_short a) (is_above a)

bag_local : IsLocal bag_meaning.part
bag_local (values.Bag a) (values.Bag b) ps alike =
    bags_local ps a b alike _ _ (λ c e. refl) (not (list_all (is_of Bag) ps))
bag_local (values.Set s) (values.Set t) ps alike = by_test (not (list_all (is_of Bag) ps)) where
  by_test : (c : Bool) → change_by (values.Set t) (cond c (Err Mixed) (Err Kind)) ≡ change_by (values.Set s) (cond c (Err Mixed) (Err Kind))
  by_test true = refl
  by_test false = refl
bag_local v w ps alike = same_value bag_result v w ps alike

-- ---- counters, and all three

count_local : IsLocal count_meaning.part
count_local (values.Bag a) (values.Bag b) ps alike = by_test (not (list_all (is_of Count) ps)) where
  by_test : (c : Bool) → change_by (values.Bag b) (cond c (Err Mixed) (Err Kind)) ≡ change_by (values.Bag a) (cond c (Err Mixed) (Err Kind))
  by_test true = refl
  by_test false = refl
count_local (values.Set s) (values.Set t) ps alike = by_test (not (list_all (is_of Count) ps)) where
  by_test : (c : Bool) → change_by (values.Set t) (cond c (Err Mixed) (Err Kind)) ≡ change_by (values.Set s) (cond c (Err Mixed) (Err Kind))
  by_test true = refl
  by_test false = refl
count_local v w ps alike = same_value count_result v w ps alike

pair_local : (a b : Meaning) → IsLocal a.part → IsLocal b.part → IsLocal (pair_meaning a b).part
pair_local a b one other v w ps alike = by_family (common_family ps) where
  by_owners : (p q : Bool) → change_by w (cond p (a.part w None ps) (cond q (b.part w None ps) (Err Mixed)))
      ≡ change_by v (cond p (a.part v None ps) (cond q (b.part v None ps) (Err Mixed)))
  by_owners true q = one v w ps alike
  by_owners false true = other v w ps alike
  by_owners false false = refl

  by_family : (o : Option Family) → change_by w (by_owner a b o (a.part w None ps) (b.part w None ps) (Err Mixed))
      ≡ change_by v (by_owner a b o (a.part v None ps) (b.part v None ps) (Err Mixed))
  by_family None = refl
  by_family (Some f) = by_owners (a.owns f) (b.owns f)

-- so are partial updates of all three
pub standard_local : IsLocal standard_part
unfolding standard_meaning
standard_local =
    pair_local (pair_meaning set_meaning bag_meaning) count_meaning
    (pair_local set_meaning bag_meaning set_local bag_local) count_local

-- what a group gives on a value that is the same to its partial updates tells what it changes
pub reported_alike : (part : Part) (v w : Value) (regular : Option Value) (ps given : List Action) (r : GroupResult) →
    IsLocal part → regular ≡ None → given ≡ ps → AreSameTo given v w → part w regular ps ≡ r →
    change_by w r ≡ change_by v (part v None ps)
reported_alike part v w regular ps given r local alone same alike gave =
    ap (change_by w) (sym gave ∙ ap (λ o. part w o ps) alone)
    ∙ local v w ps (subst (λ xs. AreSameTo xs v w) same alike)
