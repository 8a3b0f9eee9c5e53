-- Sets of elements and lists of actions, one step of a loop at a time.
use Rattle.std.proofs.Common.{◌≡◌, ℕ, ◌+◌, ◌<◌, ◌≤◌, Bool, true, false, not, ◌&&◌, ◌||◌, List, [], ◌∷◌, ◌++◌, map}
use Rattle.std.proofs.Common.{cond, length, take, get_or, refl, sym, ap, ◌∙◌, append_assoc, append-nil}
use Rattle.std.specs.Prelude.{Option, None, Some, is_some, if◌then◌else◌}
use Rattle.std.specs.FinMap as finite
use Rattle.std.specs.List.{list_any}
use Rattle.std.specs.Ordering.{eq_by_cmp}
use Rattle.std.proofs.lemmas.List.{take_more, take_all}
use Rattle.std.proofs.lemmas.List.Folds.{list_any-append}
use Rattle.asm_element.proofs.SetTree.{contains-insert}
use Rattle.asm_element.specs.Element.{element_cmp, element_cmp_total}
use Rattle.asm_element.specs.declared.element.Element.{Element}
use Rattle.asm_element.specs.Set.{ElementSet, empty, contains, insert, remove, elements, same_set}
use Rattle.asm_element.specs.Tests.{or_false, or_true, and_true, or_comm, or_assoc}
use Rattle.std.proofs.lemmas.Bool.{false≢true}
use Rattle.asm_update.specs.declared.action.Action.{Action}
use Rattle.asm_aggregate.specs.Sets.{union, difference, meets, is_the, with_element, elements_by, is_among, IsSameBesides}
use Rattle.std.specs.Borrow.{Bor}
use Rattle.asm_aggregate.specs.laws.SetAlgebra.{contains-elements, contains-union}
use Rattle.asm_aggregate.specs.laws.SetAlgebra.{contains-empty, contains-difference, contains-with_element}
use Rattle.asm_aggregate.specs.laws.SetAlgebra.{contains-elements_by, apart, not_meeting, same_element}

contains-remove : (s : ElementSet) (e q : Element) →
    contains (remove s e) q ≡ (not (eq_by_cmp element_cmp q e) && contains s q)
contains-remove s e q = ap is_some (finite.get-remove element_cmp_total s e q) ∙ kept (eq_by_cmp element_cmp q e) where
  kept : (b : Bool) → is_some (cond b None (finite.get s q)) ≡ (not b && contains s q)
  kept true = refl
  kept false = refl

-- the item of a list at which a loop is
pub record IsItem {X : Type 0} (xs : List X) (i : ℕ) (x : X) : Type 0 where
  pub within : i < length xs
  pub read : x ≡ get_or xs i x

pub any_more : {X : Type 0} (p : X → Bool) (xs : List X) (i : ℕ) (x : X) → IsItem xs i x →
    list_any p (take (i + 1) xs) ≡ (list_any p (take i xs) || p x)
any_more p xs i x item =
    ap (list_any p) (take_more xs i x item.within ∙ ap (λ y. take i xs ++ y ∷ []) (sym item.read))
    ∙ list_any-append p (take i xs) (x ∷ []) ∙ ap (λ b. list_any p (take i xs) || b) (or_false (p x))

-- the set has what the other has, and what these actions have
pub record HasGathered (element_of : Action → Option Element) (t : ElementSet) (xs : List Action)
    (s : ElementSet) : Type 0 where
  pub has : (e : Element) → contains s e ≡ (contains t e || list_any (λ x. is_the e (element_of x)) xs)

module _ (element_of : Action → Option Element) where
  pub gathered_none : (t s : ElementSet) → s ≡ t → HasGathered element_of t [] s
  gathered_none t s is = record { has = λ e. ap (λ u. contains u e) is ∙ sym (or_false (contains t e)) }

  pub gathered_more : (t s n : ElementSet) (xs : List Action) (i : ℕ) (x : Action) → IsItem xs i x →
      n ≡ with_element s (element_of x) → HasGathered element_of t (take i xs) s →
      HasGathered element_of t (take (i + 1) xs) n
  gathered_more t s n xs i x item new had = record {
    has = λ e.
        let named = λ (y : Action). is_the e (element_of y) in
        ap (λ u. contains u e) new ∙ contains-with_element s (element_of x) e
        ∙ or_comm (named x) (contains s e) ∙ ap (λ b. b || named x) (had.has e)
        ∙ or_assoc (contains t e) (list_any named (take i xs)) (named x)
        ∙ ap (λ b. contains t e || b) (sym (any_more named xs i x item));
  }

  pub gathered_all : (t s : ElementSet) (xs : List Action) (i : ℕ) → length xs ≤ i →
      HasGathered element_of t (take i xs) s → HasGathered element_of t xs s
  gathered_all t s xs i whole had = record {
    has = λ e.
        had.has e ∙ ap (λ l. contains t e || list_any (λ x. is_the e (element_of x)) l) (take_all i xs whole);
  }

  -- what begins with nothing is what the actions have
  pub gathered_is : (s : ElementSet) (xs : List Action) → HasGathered element_of empty xs s →
      s ≡ elements_by element_of xs
  gathered_is s xs had = same_set _ _ (λ e.
      had.has e ∙ ap (λ b. b || list_any (λ x. is_the e (element_of x)) xs) (contains-empty e)
      ∙ sym (contains-elements_by element_of xs e))

-- a set from which the elements of one list, or into which they, are still to go, is as another with another list
pub record AlikeWithout (s : ElementSet) (left : List Element) (t : ElementSet) (all : List Element) : Type 0 where
  pub same : (e : Element) → (contains s e && not (list_any (eq_by_cmp element_cmp e) left))
      ≡ (contains t e && not (list_any (eq_by_cmp element_cmp e) all))

pub record AlikeWith (s : ElementSet) (left : List Element) (t : ElementSet) (all : List Element) : Type 0 where
  pub same : (e : Element) → (contains s e || list_any (eq_by_cmp element_cmp e) left)
      ≡ (contains t e || list_any (eq_by_cmp element_cmp e) all)

one_gone : (b s l : Bool) → ((not b && s) && not l) ≡ (s && not (b || l))
one_gone true true l = refl
one_gone true false l = refl
one_gone false s l = refl

one_come : (b s l : Bool) → ((b || s) || l) ≡ (s || (b || l))
one_come true true l = refl
one_come true false l = refl
one_come false s l = refl

pub without_more : (s n t : ElementSet) (left rest all : List Element) (x : Element) →
    left ≡ x ∷ rest → n ≡ remove s x → AlikeWithout s left t all → AlikeWithout n rest t all
without_more s n t left rest all x is new had = record {
  same = λ e.
      ap (λ u. contains u e && not (list_any (eq_by_cmp element_cmp e) rest)) new
      ∙ ap (λ b. b && not (list_any (eq_by_cmp element_cmp e) rest)) (contains-remove s x e)
      ∙ one_gone (eq_by_cmp element_cmp e x) (contains s e) (list_any (eq_by_cmp element_cmp e) rest)
      ∙ ap (λ l. contains s e && not (list_any (eq_by_cmp element_cmp e) l)) (sym is) ∙ had.same e;
}

pub with_more : (s n t : ElementSet) (left rest all : List Element) (x y : Element) →
    left ≡ x ∷ rest → y ≡ x → n ≡ insert s y → AlikeWith s left t all → AlikeWith n rest t all
with_more s n t left rest all x y is copied new had = record {
  same = λ e.
      ap (λ u. contains u e || list_any (eq_by_cmp element_cmp e) rest) (new ∙ ap (insert s) copied)
      ∙ ap (λ b. b || list_any (eq_by_cmp element_cmp e) rest) (contains-insert s x e)
      ∙ one_come (eq_by_cmp element_cmp e x) (contains s e) (list_any (eq_by_cmp element_cmp e) rest)
      ∙ ap (λ l. contains s e || list_any (eq_by_cmp element_cmp e) l) (sym is) ∙ had.same e;
}

pub without_all : (s t gone : ElementSet) (left all : List Element) →
    left ≡ [] → all ≡ elements gone → AlikeWithout s left t all → s ≡ difference t gone
without_all s t gone left all none start had = same_set _ _ (λ e.
    sym (ap (λ l. contains s e && not (list_any (eq_by_cmp element_cmp e) l)) none ∙ and_true (contains s e))
    ∙ had.same e
    ∙ ap (λ b. contains t e && not b)
    (ap (list_any (eq_by_cmp element_cmp e)) start ∙ sym (contains-elements gone e))
    ∙ sym (contains-difference t gone e))

pub with_all : (s t more : ElementSet) (left all : List Element) →
    left ≡ [] → all ≡ elements more → AlikeWith s left t all → s ≡ union t more
with_all s t more left all none start had = same_set _ _ (λ e.
    sym (ap (λ l. contains s e || list_any (eq_by_cmp element_cmp e) l) none ∙ or_false (contains s e)) ∙ had.same e
    ∙ ap (λ b. contains t e || b) (ap (list_any (eq_by_cmp element_cmp e)) start ∙ sym (contains-elements more e))
    ∙ sym (contains-union t more e))

both_orders : (o a r : Bool) → (a && r) ≡ false → ((o || a) && not r) ≡ ((o && not r) || a)
both_orders true true true h = absurd (false≢true (sym h))
both_orders false true true h = absurd (false≢true (sym h))
both_orders true true false h = refl
both_orders false true false h = refl
both_orders o false r h = ap (λ b. b && not r) (or_false o) ∙ sym (or_false (o && not r))

-- the additions first and then the removals, where nothing is both
pub additions_first : (s added removed : ElementSet) → meets added removed ≡ false →
    difference (union s added) removed ≡ union (difference s removed) added
additions_first s added removed h = same_set _ _ (λ e.
    contains-difference (union s added) removed e ∙ ap (λ b. b && not (contains removed e)) (contains-union s added e)
    ∙ both_orders (contains s e) (contains added e) (contains removed e) (apart added removed h e)
    ∙ ap (λ b. b || contains added e) (sym (contains-difference s removed e))
    ∙ sym (contains-union (difference s removed) added e))

-- an element that is put into a set: where it was there nothing is noted, and where it is new it is noted or taken out
module _ (s n : ElementSet) (xs : List (Bor Element)) (x : Bor Element) (y : Element) (is : y ≡ x.now) (put : n ≡ insert s y) where
  has : (e : Element) → contains n e ≡ (eq_by_cmp element_cmp e x.now || contains s e)
  has e = ap (λ u. contains u e) put ∙ contains-insert s y e ∙ ap (λ z. eq_by_cmp element_cmp e z || contains s e) is

  had : (b : Bool) → contains s y ≡ b → (e : Element) → eq_by_cmp element_cmp e x.now ≡ true → contains s e ≡ b
  had b h e same = ap (contains s) (same_element e x.now same ∙ sym is) ∙ h

  again : (b o f : Bool) → (b ≡ true → o ≡ true) → (o && not f) ≡ ((b || o) && not f)
  again true o f h = ap (λ c. c && not f) (h refl)
  again false o f h = refl

  pub put_again : contains s y ≡ true → IsSameBesides s xs n xs
  put_again there = record {
    same = λ e.
        again (eq_by_cmp element_cmp e x.now) (contains s e) (is_among xs e) (had true there e)
        ∙ ap (λ b. b && not (is_among xs e)) (sym (has e));
  }

  first : (b o f : Bool) → (b ≡ true → o ≡ false) → (o && not f) ≡ ((b || o) && not (f || b))
  first true o true h = ap (λ c. c && false) (h refl)
  first true o false h = ap (λ c. c && true) (h refl)
  first false o f h = ap (λ c. o && not c) (sym (or_false f))

  pub put_first : (ys : List (Bor Element)) → contains s y ≡ false → ys ≡ xs ++ x ∷ [] → IsSameBesides s xs n ys
  put_first ys absent noted = record {
    same = λ e.
        let test = λ (r : Bor Element). eq_by_cmp element_cmp e r.now in
        let more = ap (list_any test) noted ∙ list_any-append test xs (x ∷ []) ∙ ap (λ b. is_among xs e || b) (or_false (test x)) in
        first (eq_by_cmp element_cmp e x.now) (contains s e) (is_among xs e) (had false absent e)
        ∙ (λ i. sym (has e) i && not (sym more i));
  }

  out : (b o : Bool) → (b ≡ true → o ≡ false) → o ≡ (not b && (b || o))
  out true o h = h refl
  out false o h = refl

  pub put_taken : (m : ElementSet) (ys : List (Bor Element)) → contains s y ≡ false → m ≡ remove n x.now → ys ≡ xs → IsSameBesides s xs m ys
  put_taken m ys absent taken noted = record {
    same = λ e.
        let left =
        out (eq_by_cmp element_cmp e x.now) (contains s e) (had false absent e)
        ∙ ap (λ b. not (eq_by_cmp element_cmp e x.now) && b) (sym (has e))
        ∙ sym (ap (λ u. contains u e) taken ∙ contains-remove n x.now e) in
        (λ i. left i && not (is_among (sym noted i) e));
  }

pub besides_same : (s : ElementSet) (xs : List (Bor Element)) → IsSameBesides s xs s xs
besides_same s xs = record { same = λ e. refl }

pub besides_then : (s t u : ElementSet) (xs ys zs : List (Bor Element)) → IsSameBesides s xs t ys → IsSameBesides t ys u zs →
    IsSameBesides s xs u zs
besides_then s t u xs ys zs one two = record { same = λ e. one.same e ∙ two.same e }

pub besides_taken : (s n : ElementSet) (left rest : List (Bor Element)) (x : Bor Element) → left ≡ x ∷ rest →
    n ≡ remove s x.now → IsSameBesides s left n rest
besides_taken s n left rest x is taken = record {
  same = λ e.
      ap (λ l. contains s e && not (is_among l e)) is
      ∙ sym (one_gone (eq_by_cmp element_cmp e x.now) (contains s e) (is_among rest e))
      ∙ ap (λ b. b && not (is_among rest e)) (sym (ap (λ u. contains u e) taken ∙ contains-remove s x.now e));
}

pub besides_none : (s t : ElementSet) → IsSameBesides s [] t [] → t ≡ s
besides_none s t same = same_set _ _ (λ e.
    sym (and_true (contains t e)) ∙ sym (same.same e) ∙ and_true (contains s e))

-- actions made of elements, one more
pub pushed_more : (f : Element → Action) (items new all : List Action) (left rest : List Element) (x : Element) →
    left ≡ x ∷ rest → new ≡ items ++ f x ∷ [] → items ++ map f left ≡ all → new ++ map f rest ≡ all
pushed_more f items new all left rest x is pushed had =
    ap (λ l. l ++ map f rest) pushed ∙ append_assoc items (f x ∷ []) (map f rest)
    ∙ ap (λ l. items ++ map f l) (sym is) ∙ had

pub pushed_all : (f : Element → Action) (items before : List Action) (left start all : List Element) →
    left ≡ [] → start ≡ all → items ++ map f left ≡ before ++ map f start → items ≡ before ++ map f all
pushed_all f items before left start all none whole had =
    sym (ap (λ l. items ++ map f l) none ∙ append-nil items) ∙ had ∙ ap (λ l. before ++ map f l) whole
