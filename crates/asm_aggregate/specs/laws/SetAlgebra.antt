-- Members of the sets that the definitions of set updates make.
use Rattle.std.proofs.Common.{◌≡◌, ◌≢◌, Bool, true, false, cond, not, ◌&&◌, ◌||◌, List, [], ◌∷◌, ◌++◌, map}
use Rattle.std.proofs.Common.{refl, sym, ap, subst, ◌∙◌, arith}
use Rattle.std.specs.Prelude.{Option, None, Some, is_some, IfSome, All, IsPermutation}
use Rattle.std.specs.Cmp.{Equal-is}
use Rattle.std.specs.Ordering.{eq_by_cmp}
use Rattle.std.specs.List.{list_any, list_all}
use Rattle.std.specs.FinMap as finite
use Rattle.std.proofs.lemmas.Bool.{false≢true}
use Rattle.std.proofs.lemmas.List.{nil_from_length}
use Rattle.std.proofs.lemmas.List.Elements.{All-head, All-tail}
use Rattle.std.proofs.lemmas.List.Folds.{list_any-append, list_all-append}
use Rattle.std.proofs.lemmas.List.Sorted.{list_any-IsPermutation}
use Rattle.std.proofs.lemmas.Map.Views.{All-from_any}
use Rattle.asm_element.proofs.SetTree.{contains-insert}
use Rattle.asm_element.specs.Element as element
use Rattle.asm_element.specs.Element.{element_cmp, element_cmp_total, element_cmp-IsAntisymmetric, element_eq-equiv}
use Rattle.asm_element.specs.declared.element.Element.{Element}
use Rattle.asm_element.specs.Tests.{itself, neither, or_false, or_true, or_swap}
use Rattle.asm_element.specs.Set.{ElementSet, empty, contains, elements, from_list, same_set}
use Rattle.asm_update.specs.Action.{is_of, AllProper, IsProper}
use Rattle.asm_update.specs.declared.action.Action.{Action}
use Rattle.asm_update.specs.declared.action.Action.TheVariants.{SetAdd, SetRemove}
use Rattle.asm_update.specs.declared.action.Family.TheVariants.{Set}
use Rattle.asm_aggregate.specs.Side.{other}
use Rattle.asm_aggregate.specs.Sets.{with_elements, union, difference, meets, is_the, with_element, elements_by}
use Rattle.asm_aggregate.specs.SetMeaning.{element_on, elements_on, updated, joined_elements, set_action, set_side}
use Rattle.asm_aggregate.specs.SetMeaning.{set_actions}
use Rattle.asm_aggregate.specs.declared.side.Side.{Side}
use Rattle.asm_aggregate.specs.declared.side.Side.TheVariants.{Added, Removed}

-- one element is another
pub same_element : (a b : Element) → eq_by_cmp element_cmp a b ≡ true → a ≡ b
same_element a b h = element_cmp-IsAntisymmetric a b ((Equal-is (element_cmp a b)).0 h)

-- members of sets that are made
is_some-kept : (b : Bool) (x : Option (Unit {0})) → is_some (cond b x None) ≡ (is_some x && b)
is_some-kept true None = refl
is_some-kept true (Some u) = refl
is_some-kept false None = refl
is_some-kept false (Some u) = refl

pub contains-empty : (q : Element) → contains empty q ≡ false
contains-empty q = ap is_some (finite.get-empty element_cmp q)

pub elements-empty : elements empty ≡ []
elements-empty =
    ap (map (λ e. e.0)) (nil_from_length _ (sym (finite.len-entries empty) ∙ finite.len-empty element_cmp (Unit {0})))

pub contains-elements : (s : ElementSet) (q : Element) → contains s q ≡ list_any (eq_by_cmp element_cmp q) (elements s)
contains-elements s q = finite.contains_key-keys s q

pub contains-from_list : (es : List Element) (q : Element) →
    contains (from_list es) q ≡ list_any (eq_by_cmp element_cmp q) es
contains-from_list [] q = contains-empty q
contains-from_list (e ∷ es) q =
    contains-insert (from_list es) e q ∙ ap (λ b. eq_by_cmp element_cmp q e || b) (contains-from_list es q)

pub contains-with_elements : (s : ElementSet) (es : List Element) (q : Element) →
    contains (with_elements s es) q ≡ (contains s q || list_any (eq_by_cmp element_cmp q) es)
contains-with_elements s [] q = sym (or_false _)
contains-with_elements s (e ∷ es) q =
    contains-insert (with_elements s es) e q
    ∙ ap (λ b. eq_by_cmp element_cmp q e || b) (contains-with_elements s es q)
    ∙ or_swap (eq_by_cmp element_cmp q e) (contains s q) (list_any (eq_by_cmp element_cmp q) es)

pub contains-union : (s t : ElementSet) (q : Element) → contains (union s t) q ≡ (contains s q || contains t q)
contains-union s t q =
    contains-with_elements s (elements t) q ∙ ap (λ b. contains s q || b) (sym (contains-elements t q))

pub contains-difference : (s t : ElementSet) (q : Element) →
    contains (difference s t) q ≡ (contains s q && not (contains t q))
contains-difference s t q =
    ap is_some (finite.get-retain_keys s (λ e. not (contains t e)) q
    (λ x tie. ap (λ e. not (contains t e)) (sym (element_cmp-IsAntisymmetric q x tie))))
    ∙ is_some-kept (not (contains t q)) (finite.get s q)

-- tests of each member
pub found : (p : Element → Bool) (es : List Element) (q : Element) →
    list_any p es ≡ false → list_any (eq_by_cmp element_cmp q) es ≡ true → p q ≡ false
found p [] q h k = cc
found p (e ∷ es) q h k = at (eq_by_cmp element_cmp q e) refl k (neither (p e) (list_any p es) h) (found p es q) where
  at : (b : Bool) → eq_by_cmp element_cmp q e ≡ b → (b || list_any (eq_by_cmp element_cmp q) es) ≡ true →
      (p e ≡ false) × (list_any p es ≡ false) →
      (list_any p es ≡ false → list_any (eq_by_cmp element_cmp q) es ≡ true → p q ≡ false) → p q ≡ false
  at true i k h later = ap p (same_element q e i) ∙ h.0
  at false i k h later = later h.1 k

pub none_found : (p : Element → Bool) (es : List Element) →
    ((q : Element) → list_any (eq_by_cmp element_cmp q) es ≡ true → p q ≡ false) → list_any p es ≡ false
none_found p [] each = refl
none_found p (e ∷ es) each =
    ap (λ b. b || list_any p es)
    (each e (ap (λ b. b || list_any (eq_by_cmp element_cmp e) es) (itself element_cmp_total e)))
    ∙ none_found p es (λ q one. each q (ap (λ b. eq_by_cmp element_cmp q e || b) one ∙ or_true _))

-- what holds of an element, and of another one in some case, holds of the other where it is that element or in that
-- case
one_of : (P : Element → Type 0) (e q : Element) (b : Bool) →
    P e → (b ≡ true → P q) → (eq_by_cmp element_cmp q e || b) ≡ true → P q
one_of P e q b here later k = at (eq_by_cmp element_cmp q e) refl k where
  at : (t : Bool) → eq_by_cmp element_cmp q e ≡ t → (t || b) ≡ true → P q
  at true i k = subst P (sym (same_element q e i)) here
  at false i k = later k

pub all_found : (P : Element → Type 0) (es : List Element) (q : Element) →
    All P es → list_any (eq_by_cmp element_cmp q) es ≡ true → P q
all_found P [] q h k = cc
all_found P (e ∷ es) q h k =
    one_of P e q (list_any (eq_by_cmp element_cmp q) es) (All-head P e es h) (all_found P es q (All-tail P e es h)) k

pub all_members : (P : Element → Type 0) (s : ElementSet) →
    ((q : Element) → contains s q ≡ true → P q) → All P (elements s)
all_members P s each = All-from_any element_eq-equiv P (elements s) (λ q one. each q (contains-elements s q ∙ one))

pub member_of_all : (P : Element → Type 0) (s : ElementSet) (q : Element) →
    All P (elements s) → contains s q ≡ true → P q
member_of_all P s q h k = all_found P (elements s) q h (sym (contains-elements s q) ∙ k)

-- sets that don't meet
pub apart : (s t : ElementSet) → meets s t ≡ false → (e : Element) → (contains s e && contains t e) ≡ false
apart s t h e = at (contains s e) refl where
  at : (b : Bool) → contains s e ≡ b → (b && contains t e) ≡ false
  at true i = found (contains t) (elements s) e h (sym (contains-elements s e) ∙ i)
  at false i = refl

pub not_meeting : (s t : ElementSet) → ((e : Element) → (contains s e && contains t e) ≡ false) → meets s t ≡ false
not_meeting s t h =
    none_found (contains t) (elements s)
    (λ q one. sym (ap (λ b. b && contains t q) (contains-elements s q ∙ one)) ∙ h q)

-- the set of the elements that actions have
pub contains-with_element : (s : ElementSet) (o : Option Element) (e : Element) →
    contains (with_element s o) e ≡ (is_the e o || contains s e)
contains-with_element s None e = refl
contains-with_element s (Some x) e = contains-insert s x e

module _ (element_of : Action → Option Element) where
  pub contains-elements_by : (xs : List Action) (e : Element) →
      contains (elements_by element_of xs) e ≡ list_any (λ x. is_the e (element_of x)) xs
  contains-elements_by [] e = contains-empty e
  contains-elements_by (x ∷ xs) e =
      contains-with_element (elements_by element_of xs) (element_of x) e
      ∙ ap (λ b. is_the e (element_of x) || b) (contains-elements_by xs e)

  pub elements_by-IsPermutation : (xs ys : List Action) →
      IsPermutation xs ys → elements_by element_of ys ≡ elements_by element_of xs
  elements_by-IsPermutation xs ys p = same_set _ _ (λ e.
      contains-elements_by ys e ∙ sym (list_any-IsPermutation (λ x. is_the e (element_of x)) xs ys p)
      ∙ sym (contains-elements_by xs e))

  -- those of well-formed actions are well-formed
  pub elements_by_proper : ((x : Action) → IsProper x → IfSome (element_of x) element.IsProper) →
      (xs : List Action) (q : Element) → AllProper xs → contains (elements_by element_of xs) q ≡ true →
      element.IsProper q
  elements_by_proper each [] q h k = absurd (false≢true (sym (contains-empty q) ∙ k))
  elements_by_proper each (x ∷ xs) q h k =
      at (element_of x) (each x (All-head IsProper x xs h)) (elements_by_proper each xs q (All-tail IsProper x xs h))
      (sym (contains-with_element (elements_by element_of xs) (element_of x) q) ∙ k) where
        at : (o : Option Element) → IfSome o element.IsProper →
            (contains (elements_by element_of xs) q ≡ true → element.IsProper q) →
            (is_the q o || contains (elements_by element_of xs) q) ≡ true → element.IsProper q
        at None here later k = later k
        at (Some e) here later k = one_of element.IsProper e q (contains (elements_by element_of xs) q) here later k

-- the actions of the elements of each side
any_on_side : (side : Side) (es : List Element) (e : Element) →
    list_any (λ x. is_the e (element_on side x)) (map (λ y. set_action side y) es)
    ≡ list_any (eq_by_cmp element_cmp e) es
any_on_side side [] e = refl
any_on_side Added (x ∷ xs) e = ap (λ b. eq_by_cmp element_cmp e x || b) (any_on_side Added xs e)
any_on_side Removed (x ∷ xs) e = ap (λ b. eq_by_cmp element_cmp e x || b) (any_on_side Removed xs e)

none_other : (side : Side) (es : List Element) (e : Element) →
    list_any (λ x. is_the e (element_on side x)) (map (λ y. set_action (other side) y) es) ≡ false
none_other side [] e = refl
none_other Added (x ∷ xs) e = none_other Added xs e
none_other Removed (x ∷ xs) e = none_other Removed xs e

any_of_both : (side : Side) (s : Side → ElementSet) (e : Element) →
    list_any (λ x. is_the e (element_on side x)) (set_actions s) ≡ contains (s side) e
any_of_both Added s e =
    list_any-append (λ x. is_the e (element_on Added x)) (set_side Added (s Added)) (set_side Removed (s Removed))
    ∙ (λ i. any_on_side Added (elements (s Added)) e i || none_other Added (elements (s Removed)) e i)
    ∙ or_false _ ∙ sym (contains-elements (s Added) e)
any_of_both Removed s e =
    list_any-append (λ x. is_the e (element_on Removed x)) (set_side Added (s Added)) (set_side Removed (s Removed))
    ∙ (λ i. none_other Removed (elements (s Added)) e i || any_on_side Removed (elements (s Removed)) e i)
    ∙ sym (contains-elements (s Removed) e)

pub elements_on-set_actions : (side : Side) (s : Side → ElementSet) → elements_on side (set_actions s) ≡ s side
elements_on-set_actions side s =
    same_set _ _ (λ e. contains-elements_by (element_on side) (set_actions s) e ∙ any_of_both side s e)

all_on : (side : Side) (es : List Element) → list_all (is_of Set) (map (λ e. set_action side e) es) ≡ true
all_on side [] = refl
all_on Added (e ∷ es) = all_on Added es
all_on Removed (e ∷ es) = all_on Removed es

pub all-set_actions : (s : Side → ElementSet) → list_all (is_of Set) (set_actions s) ≡ true
all-set_actions s =
    list_all-append (is_of Set) (set_side Added (s Added)) (set_side Removed (s Removed))
    ∙ (λ i. all_on Added (elements (s Added)) i && all_on Removed (elements (s Removed)) i)

-- an update, and two in a row
pub contains_updated : (s a r : ElementSet) (e : Element) →
    contains (union (difference s r) a) e ≡ ((contains s e && not (contains r e)) || contains a e)
contains_updated s a r e =
    contains-union _ a e ∙ ap (λ b. b || contains a e) (contains-difference s r e)

-- first a1, r1 and then a2, r2 is one step
pub one_step : (s a1 r1 a2 r2 : Bool) →
    ((s && not ((r1 && not a2) || r2)) || ((a1 && not r2) || a2)) ≡ ((((s && not r1) || a1) && not r2) || a2)
one_step s a1 r1 a2 r2 = grind arith

pub never_both : (a1 r1 a2 r2 : Bool) → (a1 && r1) ≡ false → (a2 && r2) ≡ false →
    (((a1 && not r2) || a2) && ((r1 && not a2) || r2)) ≡ false
never_both a1 r1 a2 r2 h k = grind arith

empty_updated : (s : ElementSet) (e : Element) → contains (union (difference s empty) empty) e ≡ contains s e
empty_updated s e =
    contains_updated s empty empty e
    ∙ (λ i. (contains s e && not (contains-empty e i)) || contains-empty e i) ∙ kept (contains s e) where
      kept : (b : Bool) → ((b && true) || false) ≡ b
      kept true = refl
      kept false = refl

pub unchanged : (s : ElementSet) → s ≡ updated s []
unchanged s = same_set _ _ (λ e. sym (empty_updated s e))

-- an element that a list has on a side
record HasElement (actions : List Action) : Type 0 where
  side : Side
  element : Element
  there : contains (elements_on side actions) element ≡ true

has_element : (actions : List Action) → list_all (is_of Set) actions ≡ true → actions ≢ [] → HasElement actions
has_element [] sets ne = absurd (ne refl)
has_element (SetAdd e ∷ xs) sets ne = record {
  side = Added;
  element = e;
  there = contains-insert _ e e ∙ ap (λ b. b || contains (elements_on Added xs) e) (itself element_cmp_total e);
}
has_element (SetRemove e ∷ xs) sets ne = record {
  side = Removed;
  element = e;
  there = contains-insert _ e e ∙ ap (λ b. b || contains (elements_on Removed xs) e) (itself element_cmp_total e);
}
has_element (x ∷ xs) sets ne = cc

-- nothing and nothing make nothing
pub none_from_none : set_actions (joined_elements [] []) ≡ []
none_from_none =
    let none : (side : Side) → elements (joined_elements [] [] side) ≡ [] =
    λ side. ap elements (same_set (joined_elements [] [] side) empty (λ e. empty_updated empty e)) ∙ elements-empty in
    λ i. map (λ e. SetAdd e) (none Added i) ++ map (λ e. SetRemove e) (none Removed i)

-- what two lists have together is nothing only where neither has anything
pub some_remain : (first second : List Action) → list_all (is_of Set) second ≡ true → second ≢ [] →
    set_actions (joined_elements first second) ≢ []
some_remain first second sets ne is =
    let has = has_element second sets ne in
    let rest = difference (elements_on has.side first) (elements_on (other has.side) second) in
    let none : joined_elements first second has.side ≡ empty =
    sym (elements_on-set_actions has.side (joined_elements first second)) ∙ ap (elements_on has.side) is in
    let there : contains (joined_elements first second has.side) has.element ≡ true =
    contains-union rest (elements_on has.side second) has.element
    ∙ ap (λ b. contains rest has.element || b) has.there ∙ or_true _ in
    false≢true (sym (contains-empty has.element) ∙ ap (λ s. contains s has.element) (sym none) ∙ there)

-- the members of an updated set are well-formed
element_proper : (side : Side) (x : Action) → IsProper x → IfSome (element_on side x) element.IsProper
element_proper Added (SetAdd e) h = h
element_proper Removed (SetRemove e) h = h
element_proper side x h = tt

pub updated_proper : (s : ElementSet) (actions : List Action) →
    All element.IsProper (elements s) → AllProper actions → All element.IsProper (elements (updated s actions))
updated_proper s actions held h =
    all_members element.IsProper (updated s actions)
    (λ q k. at q (contains s q) refl
    (sym (contains_updated s (elements_on Added actions) (elements_on Removed actions) q) ∙ k)) where
      at : (q : Element) (b : Bool) → contains s q ≡ b →
          ((b && not (contains (elements_on Removed actions) q)) || contains (elements_on Added actions) q) ≡ true →
          element.IsProper q
      at q true i k = member_of_all element.IsProper s q held i
      at q false i k = elements_by_proper (element_on Added) (element_proper Added) actions q h k
