-- Sets, bags and states from lists, from the last item to the first: they are made of their entries, and no key stands twice
-- in them.
use Rattle.std.proofs.Common.{◌≡◌, ◌<◌, ◌≤◌, ◌+◌, ℕ, zero, suc, Bool, true, false, cond, ◌||◌, not, List, [], ◌∷◌, ◌++◌, Option, Some, None, unwrap_or, refl, sym, ap, ap₂, subst, ◌∙◌, append_assoc, true≢false, arith, T}
use Rattle.std.specs.Prelude.{nat_lt, is_some, All}
use Rattle.std.specs.List.{IsDistinct, list_any, AllByRecursion}
use Rattle.std.specs.Map.{keys_of, values_of}
use Rattle.std.specs.Ordering.{eq_by_cmp}
use Rattle.std.specs.declared.cmp.Ordering.{Ordering}
use Rattle.std.specs.FinMap as finite
use Rattle.std.proofs.lemmas.List.{map-append}
use Rattle.std.proofs.lemmas.Map.Keys.{IsDistinct-cons, IsDistinct-head, IsDistinct-tail}
use Rattle.std.proofs.lemmas.Bool.{not-false, not-true, lt-ltb}
use Rattle.asm_element.specs.Element.{element_cmp, element_cmp_total, element_cmp-IsAntisymmetric}
use Rattle.asm_element.specs.Place.{Place, location_cmp, location_cmp_total}
use Rattle.asm_element.specs.declared.element.Element.{Element}
use Rattle.asm_element.specs.declared.value.Value.{Value}
use Rattle.asm_element.specs.Set as set
use Rattle.asm_element.specs.Bag as bag
use Rattle.asm_update.specs.State.{State, Updates, write, write_all}
use Rattle.asm_update.proofs.FireLemmas.{get-write, same_state}
use Rattle.asm_element.specs.Tests.{neither}
use Rattle.asm_aggregate.specs.laws.SetAlgebra.{contains-from_list}
use Rattle.asm_journal.specs.Shape.{AreDistinct}
use Rattle.asm_journal.specs.Set.{IsSetOf, IsBagOf, bag_of}
use Rattle.asm_journal.specs.Value.{IsStateOf}
use Rattle.std.specs.FinMap.Entries.{is_sorted, below_all}
use Rattle.std.proofs.lemmas.List.Elements.{recursion_from_All}
use Rattle.asm_element.specs.Ascending.{both_T, not_among}
use Rattle.asm_element.specs.Value as value
use Rattle.asm_update.specs.State as state

-- what is left, and behind it what is done, is all
pub one_back : {X : Type 0} (xs : List X) (x : X) (left done all : List X) → left ++ done ≡ all → left ≡ xs ++ x ∷ [] → xs ++ x ∷ done ≡ all
one_back xs x left done all whole step = sym (append_assoc xs (x ∷ []) done) ∙ ap (λ l. l ++ done) (sym step) ∙ whole

-- ---- keys that stand twice

module _ {K : Type 0} (cmp : K → K → Ordering) where
  -- whether the key is among those of a list
  abbrev stands : K → List K → Bool
  stands x ys = list_any (eq_by_cmp cmp x) ys

  others : (x : K) (ys : List K) → stands x ys ≡ false → AllByRecursion (λ y. eq_by_cmp cmp x y ≡ false) ys
  others x [] h = tt
  others x (y ∷ ys) h = let parts = neither _ _ h in (parts.0, others x ys parts.1)

  not_any : (x : K) (ys : List K) → AllByRecursion (λ y. eq_by_cmp cmp x y ≡ false) ys → stands x ys ≡ false
  not_any x [] h = refl
  not_any x (y ∷ ys) h = ap (λ b. b || stands x ys) h.0 ∙ not_any x ys h.1

  pub none_distinct : AreDistinct cmp []
  unfolding IsDistinct
  none_distinct = tt

  -- one key more, which isn't there yet
  pub more_distinct : (x : K) (ys : List K) → stands x ys ≡ false → AreDistinct cmp ys → AreDistinct cmp (x ∷ ys)
  more_distinct x ys new h = IsDistinct-cons (eq_by_cmp cmp) x ys (others x ys new) h

  -- what is distinct has distinct ends
  end_distinct : (xs ys : List K) → AreDistinct cmp (xs ++ ys) → AreDistinct cmp ys
  end_distinct [] ys h = h
  end_distinct (x ∷ xs) ys h = end_distinct xs ys (IsDistinct-tail (eq_by_cmp cmp) x (xs ++ ys) h)

  -- a key that stands further on
  twice : (xs : List K) (x : K) (ys all : List K) → xs ++ x ∷ ys ≡ all → stands x ys ≡ true → AreDistinct cmp all → ⊥
  twice xs x ys all whole any h =
      let ended = end_distinct xs (x ∷ ys) (subst (AreDistinct cmp) (sym whole) h) in
      true≢false (sym any ∙ not_any x ys (IsDistinct-head (eq_by_cmp cmp) x ys ended))

  twice_key : {X : Type 0} (xs : List (K × X)) (p : K × X) (ys all : List (K × X)) → xs ++ p ∷ ys ≡ all → stands p.0 (keys_of ys) ≡ true → AreDistinct cmp (keys_of all) → ⊥
  twice_key {X = X} xs p ys all whole any h = twice (keys_of xs) p.0 (keys_of ys) (keys_of all) (sym (map-append (λ (q : K × X). q.0) xs (p ∷ ys)) ∙ ap keys_of whole) any h

-- ---- sets

stands_in : (s : set.ElementSet) (done : List Element) (x : Element) → IsSetOf s done → stands element_cmp x done ≡ set.contains s x
stands_in s done x made = sym (contains-from_list done x) ∙ ap (λ r. set.contains r x) (sym made.1)

pub set-twice : (xs : List Element) (x : Element) (done all : List Element) (s : set.ElementSet) → xs ++ x ∷ done ≡ all → IsSetOf s done → not (set.contains s x) ≡ false → (t : set.ElementSet) → IsSetOf t all → ⊥
set-twice xs x done all s whole made there t h = twice element_cmp xs x done all whole (stands_in s done x made ∙ not-false _ there) h.0

pub set-more : (x : Element) (done : List Element) (s t : set.ElementSet) → IsSetOf s done → not (set.contains s x) ≡ true → t ≡ set.insert s x → IsSetOf t (x ∷ done)
set-more x done s t made new inserted =
    (more_distinct element_cmp x done (stands_in s done x made ∙ not-true _ new) made.0, inserted ∙ ap (λ r. set.insert r x) made.1)

-- ---- bags

abbrev Counts : Type 0
Counts = List (Element × ℕ)

-- each count is above 0
abbrev pub ArePositive : Counts → Type 0
ArePositive = AllByRecursion (λ p. 1 ≤ p.1)

-- a bag has an element just where its list has it
count-bag_of : (ps : Counts) (x : Element) → ArePositive ps → nat_lt 0 (bag.count (bag_of ps) x) ≡ stands element_cmp x (keys_of ps)
count-bag_of [] x h = ap (λ o. nat_lt 0 (unwrap_or o 0)) (finite.get-empty element_cmp x)
count-bag_of (p ∷ ps) x h = by_count p.1 h.0 (count-bag_of ps x h.1) where
  by_test : (b : Bool) (n : ℕ) → nat_lt 0 (unwrap_or (cond b (Some (suc n)) (finite.get (bag_of ps) x)) 0) ≡ (b || nat_lt 0 (bag.count (bag_of ps) x))
  by_test true n = lt-ltb 0 (suc n) (omega arith)
  by_test false n = refl

  by_count : (n : ℕ) → 1 ≤ n → nat_lt 0 (bag.count (bag_of ps) x) ≡ stands element_cmp x (keys_of ps) → nat_lt 0 (bag.count (bag.set_count (bag_of ps) p.0 n) x) ≡ (eq_by_cmp element_cmp x p.0 || stands element_cmp x (keys_of ps))
  by_count zero low rest = absurd (omega (arith, low))
  by_count (suc n) low rest =
      ap (λ o. nat_lt 0 (unwrap_or o 0)) (finite.get-insert element_cmp_total (bag_of ps) p.0 (suc n) x)
      ∙ by_test (eq_by_cmp element_cmp x p.0) n
      ∙ ap (λ b. eq_by_cmp element_cmp x p.0 || b) rest

counts_in : (b : bag.ElementBag) (done : Counts) (x : Element) → IsBagOf b done → ArePositive done → stands element_cmp x (keys_of done) ≡ nat_lt 0 (bag.count b x)
counts_in b done x made above = sym (count-bag_of done x above) ∙ ap (λ r. nat_lt 0 (bag.count r x)) (sym made.1)

pub bag-twice : (xs : Counts) (p : Element × ℕ) (done all : Counts) (b : bag.ElementBag) → xs ++ p ∷ done ≡ all → IsBagOf b done → ArePositive done → 0 < bag.count b p.0 → (c : bag.ElementBag) → IsBagOf c all → ⊥
bag-twice xs p done all b whole made above there c h =
    twice_key element_cmp xs p done all whole (counts_in b done p.0 made above ∙ lt-ltb 0 _ there) h.0

pub bag-more : (p : Element × ℕ) (done : Counts) (b c : bag.ElementBag) → IsBagOf b done → ArePositive done → bag.count b p.0 ≡ 0 → c ≡ bag.set_count b p.0 (bag.count b p.0 + p.1) → IsBagOf c (p ∷ done)
bag-more p done b c made above none put =
    let new = counts_in b done p.0 made above ∙ ap (nat_lt 0) none in
    let sum : bag.count b p.0 + p.1 ≡ p.1 = omega (arith, none) in
    (more_distinct element_cmp p.0 (keys_of done) new made.0, put ∙ ap (bag.set_count b p.0) sum ∙ ap (λ r. bag.set_count r p.0 p.1) made.1)

-- ---- states

-- the list's locations are those with a value in the state, and those of undef beside it
abbrev pub AreRead : State → Updates → List (Place × Value) → Type 0
AreRead A U done = (q : Place) → (is_some (finite.get A q) || is_some (finite.get U q)) ≡ stands location_cmp q (keys_of done)

pub none_read : (A : State) (U : Updates) → A ≡ finite.empty → U ≡ finite.empty → AreRead A U []
none_read A U empty none q =
    ap₂ (λ S W. is_some (finite.get S q) || is_some (finite.get W q)) empty none
    ∙ ap₂ (λ a u. is_some a || is_some u) (finite.get-empty location_cmp q) (finite.get-empty location_cmp q)

pub state-twice : (xs : List (Place × Value)) (p : Place × Value) (done all : List (Place × Value)) (A : State) (U : Updates) → xs ++ p ∷ done ≡ all → AreRead A U done → (is_some (finite.get A p.0) || is_some (finite.get U p.0)) ≡ true → (B : State) → IsStateOf B all → ⊥
state-twice xs p done all A U whole read there B h = twice_key location_cmp xs p done all whole (sym (read p.0) ∙ there) h.0

-- one pair more; a location of undef is put beside the state
pub read-more : (p : Place × Value) (done : List (Place × Value)) (A B : State) (U V : Updates) → AreRead A U done → B ≡ write A p.0 p.1 → V ≡ cond (value.is_undef p.1) (finite.insert U p.0 p.1) U → AreRead B V (p ∷ done)
read-more p done A B U V read written noted q =
    ap₂ (λ S W. is_some (finite.get S q) || is_some (finite.get W q)) written noted
    ∙ ap (λ o. is_some o || is_some (finite.get (cond (value.is_undef p.1) (finite.insert U p.0 p.1) U) q)) (get-write A p.0 p.1 q)
    ∙ by_undef (value.is_undef p.1)
    ∙ ap (λ b. eq_by_cmp location_cmp q p.0 || b) (read q) where
      there : (e : Bool) (a u : Option Value) → (is_some (cond e None a) || is_some (cond e (Some p.1) u)) ≡ (e || (is_some a || is_some u))
      there true a u = refl
      there false a u = refl

      here : (e : Bool) (a u : Option Value) → (is_some (cond e (Some p.1) a) || is_some u) ≡ (e || (is_some a || is_some u))
      here true a u = refl
      here false a u = refl

      by_undef : (b : Bool) → (is_some (cond (eq_by_cmp location_cmp q p.0) (cond b None (Some p.1)) (finite.get A q)) || is_some (finite.get (cond b (finite.insert U p.0 p.1) U) q)) ≡ (eq_by_cmp location_cmp q p.0 || (is_some (finite.get A q) || is_some (finite.get U q)))
      by_undef true =
          ap (λ o. is_some (cond (eq_by_cmp location_cmp q p.0) None (finite.get A q)) || is_some o) (finite.get-insert location_cmp_total U p.0 p.1 q)
          ∙ there (eq_by_cmp location_cmp q p.0) (finite.get A q) (finite.get U q)
      by_undef false = here (eq_by_cmp location_cmp q p.0) (finite.get A q) (finite.get U q)

pub state-more : (p : Place × Value) (done : List (Place × Value)) (A B : State) (U : Updates) → IsStateOf A done → AreRead A U done → (is_some (finite.get A p.0) || is_some (finite.get U p.0)) ≡ false → B ≡ write A p.0 p.1 → IsStateOf B (p ∷ done)
state-more p done A B U made read new written =
    (more_distinct location_cmp p.0 (keys_of done) (sym (read p.0) ∙ new) made.0, written ∙ ap (λ S. write S p.0 p.1) made.1)

-- ---- keys

distinct : {K X : Type 0} (cmp : K → K → Ordering) (es : List (K × X)) → T (is_sorted cmp es)
    → AreDistinct cmp (keys_of es)
distinct cmp [] h = none_distinct cmp
distinct cmp (e ∷ es) h =
    let parts = both_T (below_all cmp e.0 es) (is_sorted cmp es) h in
    more_distinct cmp e.0 (keys_of es) (not_among cmp e.0 es parts.0) (distinct cmp es parts.1)

-- what holds of keys and of values holds of entries
pairs : {K X : Type 0} (P : K → Type 0) (Q : X → Type 0) (es : List (K × X)) → AllByRecursion P (keys_of es)
    → AllByRecursion Q (values_of es) → AllByRecursion (λ e. P e.0 × Q e.1) es
pairs P Q [] h k = tt
pairs P Q (e ∷ es) h k = ((h.0, k.0), pairs P Q es h.1 k.1)

pub pairs_kept : {K X : Type 0} (P : K → Type 0) (Q : X → Type 0) (es : List (K × X)) → All P (keys_of es)
    → All Q (values_of es) → AllByRecursion (λ e. P e.0 × Q e.1) es
pairs_kept P Q es h k = pairs P Q es (recursion_from_All P (keys_of es) h) (recursion_from_All Q (values_of es) k)

-- ---- sets

pub set_kept : (s : set.ElementSet) → IsSetOf s (set.elements s)
set_kept s = (
  distinct element_cmp (finite.entries s) (finite.entries_sorted s),
  set.same_set s _ (λ q. finite.contains_key-keys s q ∙ sym (contains-from_list (set.elements s) q)),
)

-- ---- bags

get-set_count : (b : bag.ElementBag) (x : Element) (n : ℕ) (q : Element) → 0 < n
    → finite.get (bag.set_count b x n) q ≡ cond (eq_by_cmp element_cmp q x) (Some n) (finite.get b q)
get-set_count b x zero q low = absurd (omega (arith, low))
get-set_count b x (suc n) q low = finite.get-insert element_cmp_total b x (suc n) q

get-bag_of : (es : List (Element × ℕ)) → AllByRecursion bag.IsCount (values_of es) → (q : Element)
    → finite.get (bag_of es) q ≡ finite.find element_cmp q es
get-bag_of [] h q = finite.get-empty element_cmp q
get-bag_of (e ∷ es) h q =
    get-set_count (bag_of es) e.0 e.1 q h.0.0
    ∙ ap (cond (eq_by_cmp element_cmp q e.0) (Some e.1)) (get-bag_of es h.1 q)

pub bag_kept : (b : bag.ElementBag) → bag.IsProper b → IsBagOf b (bag.entries b)
bag_kept b h = (
  distinct element_cmp (finite.entries b) (finite.entries_sorted b),
  finite.same_map element_cmp_total element_cmp-IsAntisymmetric b _
      (λ q. finite.get-entries b q
      ∙ sym (get-bag_of (finite.entries b) (recursion_from_All bag.IsCount _ h.1) q)),
)

-- ---- states

abbrev IsHeld : Value → Type 0
IsHeld v = value.is_undef v ≡ false

get-write_all : (es : List (Place × Value)) → AllByRecursion IsHeld (values_of es) → (q : Place)
    → finite.get (write_all state.empty es) q ≡ finite.find location_cmp q es
get-write_all [] h q = finite.get-empty location_cmp q
get-write_all (e ∷ es) h q =
    get-write (write_all state.empty es) e.0 e.1 q
    ∙ ap (λ b. cond (eq_by_cmp location_cmp q e.0) (cond b None (Some e.1))
    (finite.get (write_all state.empty es) q)) h.0
    ∙ ap (cond (eq_by_cmp location_cmp q e.0) (Some e.1)) (get-write_all es h.1 q)

pub state_kept : (A : State) → state.IsProper A → IsStateOf A (finite.entries A)
state_kept A h = (
  distinct location_cmp (finite.entries A) (finite.entries_sorted A),
  same_state A _ (λ q.
      finite.get-entries A q ∙ sym (get-write_all (finite.entries A) (recursion_from_All IsHeld _ h.no_undef) q)),
)
