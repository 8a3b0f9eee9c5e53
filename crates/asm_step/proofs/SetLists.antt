-- Partial updates of sets by what they add and what they remove, and one more of them.
use Rattle.std.proofs.Common.{◌≡◌, ◌≢◌, ◌↔◌, ℕ, zero, suc, ◌+◌, ◌-◌, ◌≤◌, Bool, true, false, cond, not, ◌&&◌, ◌||◌, List, [], ◌∷◌, map, length, refl, sym, ap, ◌∙◌, arith, length-append}
use Rattle.std.specs.Prelude.{Option, None, Some, Ok, All, IsTrue}
use Rattle.std.specs.Bool.{OnTrue}
use Rattle.std.specs.FinMap as finite
use Rattle.std.specs.List.{list_any, list_all}
use Rattle.std.specs.Ordering.{eq_by_cmp}
use Rattle.std.proofs.lemmas.Bool.{false≢true}
use Rattle.std.proofs.lemmas.List.{length-map}
use Rattle.std.proofs.lemmas.List.Elements.{All-append, All-cons, All-head, All-nil, All-tail}
use Rattle.std.proofs.lemmas.List.Folds.{list_any-append, list_all-append}
use Rattle.asm_element.proofs.SetTree.{contains-insert, contains-remove}
use Rattle.asm_element.specs.Element as element
use Rattle.asm_element.specs.Element.{element_cmp, element_cmp_total}
use Rattle.asm_element.specs.Set.{ElementSet, empty, contains, insert, remove, elements, len, same_set}
use Rattle.asm_element.specs.Tests.{or_false}
use Rattle.asm_element.specs.declared.element.Element.{Element}
use Rattle.asm_update.specs.Action.{is_of, AllProper, IsProper}
use Rattle.asm_update.specs.declared.action.Action.{Action}
use Rattle.asm_update.specs.declared.action.Action.TheVariants.{SetAdd, SetRemove}
use Rattle.asm_update.specs.declared.action.Family.TheVariants.{Set}
use Rattle.asm_aggregate.specs.PairMeaning.{refused}
use Rattle.asm_aggregate.specs.SetMeaning.{adds_and_removes, joined_elements, set_actions, set_joins}
use Rattle.asm_aggregate.specs.Sets.{union, difference, meets, is_the, elements_by}
use Rattle.asm_aggregate.specs.laws.SetAlgebra.{apart, contains-difference, contains-elements, contains-elements_by, contains-empty, contains-union, elements-empty, not_meeting, same_element}
use Rattle.asm_step.specs.Front.{set_list, set_update, set_updates}
use Rattle.asm_step.specs.Outcomes.{acts}

-- of two parts that are the same
pub two : {A B C : Type 0} (f : A → B → C) {a b : A} {c d : B} → a ≡ b → c ≡ d → f a c ≡ f b d
two f p q = λ i. f (p i) (q i)

-- the function finds the elements of additions, or those of removals
pub record Finds (f : Action → Option Element) (adds : Bool) : Type 0 where
  pub here : (e : Element) → f (set_update adds e) ≡ Some e
  pub other : (e : Element) → f (set_update (not adds) e) ≡ None

module _ (f : Action → Option Element) (adds : Bool) (finds : Finds f adds) (q : Element) where
  any_here : (es : List Element) → list_any (λ x. is_the q (f x)) (map (set_update adds) es) ≡ list_any (eq_by_cmp element_cmp q) es
  any_here [] = refl
  any_here (e ∷ es) = λ i. is_the q (finds.here e i) || any_here es i

  none_other : (es : List Element) → list_any (λ x. is_the q (f x)) (map (set_update (not adds)) es) ≡ false
  none_other [] = refl
  none_other (e ∷ es) = λ i. is_the q (finds.other e i) || none_other es i

pub found_added : (f : Action → Option Element) → Finds f true → (a r : ElementSet) → elements_by f (set_list a r) ≡ a
found_added f finds a r = same_set _ _ (λ q.
    contains-elements_by f (set_list a r) q
    ∙ list_any-append (λ x. is_the q (f x)) (set_updates true a) (set_updates false r)
    ∙ (λ i. any_here f true finds q (elements a) i || none_other f true finds q (elements r) i)
    ∙ or_false _ ∙ sym (contains-elements a q))

pub found_removed : (f : Action → Option Element) → Finds f false → (a r : ElementSet) → elements_by f (set_list a r) ≡ r
found_removed f finds a r = same_set _ _ (λ q.
    contains-elements_by f (set_list a r) q
    ∙ list_any-append (λ x. is_the q (f x)) (set_updates true a) (set_updates false r)
    ∙ (λ i. none_other f false finds q (elements a) i || any_here f false finds q (elements r) i)
    ∙ sym (contains-elements r q))

-- all of them are of sets
all_of_sets : (adds : Bool) (es : List Element) → list_all (is_of Set) (map (set_update adds) es) ≡ true
all_of_sets adds [] = refl
all_of_sets true (e ∷ es) = all_of_sets true es
all_of_sets false (e ∷ es) = all_of_sets false es

pub list_of_sets : (a r : ElementSet) → list_all (is_of Set) (set_list a r) ≡ true
list_of_sets a r =
    list_all-append (is_of Set) (set_updates true a) (set_updates false r)
    ∙ (λ i. all_of_sets true (elements a) i && all_of_sets false (elements r) i)

-- and so many
many_updates : (adds : Bool) (s : ElementSet) → length (set_updates adds s) ≡ len s
many_updates adds s =
    length-map (elements s) (set_update adds) ∙ length-map (finite.entries s) _ ∙ sym (finite.len-entries s)

pub list_length : (a r : ElementSet) → length (set_list a r) ≡ len a + len r
list_length a r =
    length-append (set_updates true a) (set_updates false r) ∙ two (λ n m. n + m) (many_updates true a) (many_updates false r)

-- a set with one more element, and with one less
put_one : (s : ElementSet) (e : Element) → union (difference s empty) (insert empty e) ≡ insert s e
put_one s e = same_set _ _ (λ q.
    contains-union (difference s empty) (insert empty e) q
    ∙ two (λ b c. b || c) (contains-difference s empty q) (contains-insert empty e q)
    ∙ (λ i. (contains s q && not (contains-empty q i)) || (eq_by_cmp element_cmp q e || contains-empty q i))
    ∙ by_tests (contains s q) (eq_by_cmp element_cmp q e) ∙ sym (contains-insert s e q)) where
      by_tests : (b c : Bool) → ((b && not false) || (c || false)) ≡ (c || b)
      by_tests b c = grind arith

take_one : (s : ElementSet) (e : Element) → union (difference s (insert empty e)) empty ≡ remove s e
take_one s e = same_set _ _ (λ q.
    contains-union (difference s (insert empty e)) empty q
    ∙ two (λ b c. b || c)
    (contains-difference s (insert empty e) q ∙ ap (λ b. contains s q && not b) (contains-insert empty e q)) (contains-empty q)
    ∙ (λ i. (contains s q && not (eq_by_cmp element_cmp q e || contains-empty q i)) || false)
    ∙ by_tests (contains s q) (eq_by_cmp element_cmp q e) ∙ sym (contains-remove s e q)) where
      by_tests : (b c : Bool) → ((b && not (c || false)) || false) ≡ cond c false b
      by_tests true true = refl
      by_tests true false = refl
      by_tests false true = refl
      by_tests false false = refl

joined_here : (f : Action → Option Element) (s : ElementSet) (xs : List Action) (e : Element) → elements_by f xs ≡ s →
    union (difference (elements_by f xs) empty) (insert empty e) ≡ insert s e
joined_here f s xs e is = ap (λ t. union (difference t empty) (insert empty e)) is ∙ put_one s e

joined_other : (f : Action → Option Element) (s : ElementSet) (xs : List Action) (e : Element) → elements_by f xs ≡ s →
    union (difference (elements_by f xs) (insert empty e)) empty ≡ remove s e
joined_other f s xs e is = ap (λ t. union (difference t (insert empty e)) empty) is ∙ take_one s e

-- nothing meets a set
none_met : (s : ElementSet) → meets s empty ≡ false
none_met s = not_meeting s empty (λ q. ap (λ b. contains s q && b) (contains-empty q) ∙ by_test (contains s q)) where
  by_test : (b : Bool) → (b && false) ≡ false
  by_test true = refl
  by_test false = refl

meets_none : (s : ElementSet) → meets empty s ≡ false
meets_none s = ap (list_any (contains s)) elements-empty

-- nothing is added that is removed
pub adds_nothing : adds_and_removes [] ≡ false
adds_nothing = meets_none empty

-- what is put into one of two sets and taken out of the other
pub still_apart : (s t : ElementSet) (e : Element) → meets s t ≡ false → meets (insert s e) (remove t e) ≡ false
still_apart s t e h = not_meeting _ _ (λ q.
    two (λ b c. b && c) (contains-insert s e q) (contains-remove t e q)
    ∙ by_tests (eq_by_cmp element_cmp q e) (contains s q) (contains t q) (apart s t h q)) where
      by_tests : (b c d : Bool) → (c && d) ≡ false → ((b || c) && cond b false d) ≡ false
      by_tests true c d h = refl
      by_tests false c d h = h

pub apart_back : (s t : ElementSet) → meets s t ≡ false → meets t s ≡ false
apart_back s t h = not_meeting t s (λ q. by_tests (contains s q) (contains t q) (apart s t h q)) where
  by_tests : (c d : Bool) → (c && d) ≡ false → (d && c) ≡ false
  by_tests true true h = h
  by_tests true false h = refl
  by_tests false true h = refl
  by_tests false false h = refl

-- a list of these adds nothing that it removes
pub list_apart : (a r : ElementSet) → meets a r ≡ false → adds_and_removes (set_list a r) ≡ false
list_apart a r h =
    two meets (found_added _ (record { here = λ e. refl; other = λ e. refl }) a r)
    (found_removed _ (record { here = λ e. refl; other = λ e. refl }) a r) ∙ h

one_apart : (adds : Bool) (e : Element) → adds_and_removes (set_update adds e ∷ []) ≡ false
one_apart true e = none_met (insert empty e)
one_apart false e = meets_none (insert empty e)

pub one_of_sets : (adds : Bool) (e : Element) → list_all (is_of Set) (set_update adds e ∷ []) ≡ true
one_of_sets true e = refl
one_of_sets false e = refl

-- lists that are joined
fair_joins : (xs ys : List Action) → list_all (is_of Set) xs ≡ true → adds_and_removes xs ≡ false →
    list_all (is_of Set) ys ≡ true → adds_and_removes ys ≡ false →
    set_joins xs ys ≡ Ok (set_actions (joined_elements xs ys))
fair_joins xs ys h k m n = rw (h, k, m, n) refl

pub joins_nothing : (a r : ElementSet) → meets a r ≡ false → refused (set_joins (set_list a r) []) ≡ None
joins_nothing a r h =
    ap refused (fair_joins (set_list a r) [] (list_of_sets a r) (list_apart a r h) refl adds_nothing)

pub joins_added : (a r : ElementSet) (e : Element) → meets a r ≡ false →
    set_joins (set_list a r) (set_update true e ∷ []) ≡ Ok (set_list (insert a e) (remove r e))
joins_added a r e h =
    fair_joins (set_list a r) (set_update true e ∷ []) (list_of_sets a r) (list_apart a r h) (one_of_sets true e) (one_apart true e)
    ∙ ap (λ xs. Ok xs) (two set_list
    (joined_here _ a (set_list a r) e (found_added _ (record { here = λ e. refl; other = λ e. refl }) a r))
    (joined_other _ r (set_list a r) e (found_removed _ (record { here = λ e. refl; other = λ e. refl }) a r)))

pub joins_removed : (a r : ElementSet) (e : Element) → meets a r ≡ false →
    set_joins (set_list a r) (set_update false e ∷ []) ≡ Ok (set_list (remove a e) (insert r e))
joins_removed a r e h =
    fair_joins (set_list a r) (set_update false e ∷ []) (list_of_sets a r) (list_apart a r h) (one_of_sets false e) (one_apart false e)
    ∙ ap (λ xs. Ok xs) (two set_list
    (joined_other _ a (set_list a r) e (found_added _ (record { here = λ e. refl; other = λ e. refl }) a r))
    (joined_here _ r (set_list a r) e (found_removed _ (record { here = λ e. refl; other = λ e. refl }) a r)))

-- an element that is put in, or taken out again
module _ (s : ElementSet) (e : Element) where
  pub put_again : contains s e ≡ true → insert s e ≡ s
  put_again has = same_set _ _ (λ q. contains-insert s e q ∙ by_test q (eq_by_cmp element_cmp q e) refl) where
    by_test : (q : Element) (b : Bool) → eq_by_cmp element_cmp q e ≡ b → (b || contains s q) ≡ contains s q
    by_test q true h = sym has ∙ ap (contains s) (sym (same_element q e h))
    by_test q false h = refl

  pub taken_out : contains s e ≡ false → remove (insert s e) e ≡ s
  taken_out hasn't = same_set _ _ (λ q.
      contains-remove (insert s e) e q ∙ ap (cond (eq_by_cmp element_cmp q e) false) (contains-insert s e q)
      ∙ by_test q (eq_by_cmp element_cmp q e) refl) where
        by_test : (q : Element) (b : Bool) → eq_by_cmp element_cmp q e ≡ b → cond b false (b || contains s q) ≡ contains s q
        by_test q true h = sym hasn't ∙ ap (contains s) (sym (same_element q e h))
        by_test q false h = refl

-- so many elements come and go
some_there : (s : ElementSet) (e : Element) → contains s e ≡ true → 1 ≤ len s
some_there s e has = by_len (len s) refl where
  by_len : (n : ℕ) → len s ≡ n → 1 ≤ n
  by_len zero h =
      absurd (false≢true (sym (contains-empty e) ∙ ap (λ t. contains t e) (sym (finite.empty_of_len s h)) ∙ has))
  by_len (suc n) h = omega arith

pub exchanged : (s t n m : ElementSet) (d e : Element) (is_new was_there : Bool) (a b : ℕ) → d ≡ e →
    is_new ≡ not (contains s d) → n ≡ insert s d → was_there ≡ contains t e → m ≡ remove t e →
    a ≡ cond is_new 1 0 → b ≡ cond was_there 1 0 → (len n + len m + b ≡ len s + len t + a) × (a ≤ 1)
exchanged s t n m d e is_new was_there a b same new put was gone more less =
    let long : len n ≡ cond (contains s d) (len s) (len s + 1) = ap len put ∙ finite.len-insert element_cmp_total s d tt in
    let short : len m ≡ cond (contains t e) (len t - 1) (len t) = ap len gone ∙ finite.len-remove element_cmp_total t e in
    by_tests (contains s d) (contains t e) refl long short (more ∙ ap (λ x. cond x 1 0) new) (less ∙ ap (λ x. cond x 1 0) was) where
      by_tests : (x y : Bool) → contains t e ≡ y → len n ≡ cond x (len s) (len s + 1) → len m ≡ cond y (len t - 1) (len t) →
          a ≡ cond (not x) 1 0 → b ≡ cond y 1 0 → (len n + len m + b ≡ len s + len t + a) × (a ≤ 1)
      by_tests true true has l k p q = let some = some_there t e has in (omega (arith, l, k, p, q, some), omega (arith, p))
      by_tests true false has l k p q = (omega (arith, l, k, p, q), omega (arith, p))
      by_tests false true has l k p q = let some = some_there t e has in (omega (arith, l, k, p, q, some), omega (arith, p))
      by_tests false false has l k p q = (omega (arith, l, k, p, q), omega (arith, p))

-- whether there are actions, by their number
acts_long : (xs : List Action) → ¬ (length xs ≡ 0) → acts xs ≡ true
acts_long [] some = absurd (some refl)
acts_long (x ∷ xs) some = refl

acts_none : (xs : List Action) → length xs ≡ 0 → acts xs ≡ false
acts_none [] none = refl
acts_none (x ∷ xs) none = absurd (omega (arith, none))

pub acts_some : (a r : ElementSet) → ¬ (len a ≡ 0) → true ≡ acts (set_list a r)
acts_some a r some =
    sym (acts_long (set_list a r) (λ none. some (let many = list_length a r in omega (arith, none, many))))

pub acts_removed : (a r : ElementSet) (b : Bool) → len a ≡ 0 → IsTrue b ↔ (len r ≡ 0) → not b ≡ acts (set_list a r)
acts_removed a r true none is =
    let rest = is.0 refl in let many = list_length a r in sym (acts_none (set_list a r) (omega (arith, many, none, rest)))
acts_removed a r false none is =
    sym (acts_long (set_list a r) (λ nothing. false≢true (is.1 (let many = list_length a r in omega (arith, nothing, many)))))

pub acting : (xs : List Action) → acts xs ≡ true → xs ≢ []
acting [] h e = cc
acting (x ∷ xs) h e = cc

-- what follows from a test
pub on_true : {P : Type 0} (b : Bool) → (b ≡ true → P) → OnTrue b P
on_true true h = h refl
on_true false h = tt

-- elements that a program can hold
proper_side : (adds : Bool) (es : List Element) → All element.IsProper es → AllProper (map (set_update adds) es)
proper_side adds [] all = All-nil IsProper
proper_side true (e ∷ es) all =
    All-cons IsProper (SetAdd e) (map (set_update true) es) (All-head element.IsProper e es all)
    (proper_side true es (All-tail element.IsProper e es all))
proper_side false (e ∷ es) all =
    All-cons IsProper (SetRemove e) (map (set_update false) es) (All-head element.IsProper e es all)
    (proper_side false es (All-tail element.IsProper e es all))

pub proper_list : (a r : ElementSet) → All element.IsProper (elements a) → All element.IsProper (elements r) → AllProper (set_list a r)
proper_list a r all all' =
    All-append IsProper (set_updates true a) (set_updates false r) (proper_side true (elements a) all)
    (proper_side false (elements r) all')
