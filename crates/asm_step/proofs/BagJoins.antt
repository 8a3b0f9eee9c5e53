-- Bags to which one more partial update is joined.
use Rattle.std.proofs.Common.{◌≡◌, ℕ, ◌+◌, ◌-◌, ◌≤◌, ◌<◌, ◌^◌, Bool, true, false, cond, not, ◌||◌, List, [], ◌∷◌, ◌++◌, refl, sym, ap, subst, ◌∙◌, arith, add-zero}
use Rattle.std.specs.Prelude.{if◌then◌else◌, None, Ok, sum_by}
use Rattle.std.specs.List.{list_any, list_all}
use Rattle.std.specs.Ordering.{eq_by_cmp}
use Rattle.std.proofs.lemmas.List.Sums.{sum_by-append}
use Rattle.asm_element.specs.Bag.{ElementBag, count, lowered_to, raised_to}
use Rattle.asm_element.specs.Tests.{neither}
use Rattle.asm_element.specs.Element.{element_cmp}
use Rattle.asm_element.specs.declared.element.Element.{Element}
use Rattle.asm_update.specs.Action.{is_of}
use Rattle.asm_update.specs.declared.action.Action.{Action}
use Rattle.asm_update.specs.declared.action.Action.TheVariants.{BagAdd, BagRemove}
use Rattle.asm_update.specs.declared.action.Family.TheVariants.{Bag}
use Rattle.asm_aggregate.specs.BagMeaning.{bag_actions, bag_joins, is_either_large, joined_amount, named}
use Rattle.asm_aggregate.specs.PairMeaning.{refused}
use Rattle.asm_aggregate.specs.Steps.{names}
use Rattle.asm_aggregate.specs.Table.{first_cause}
use Rattle.asm_update.specs.Aggregator.{Refused, TooLarge}
use Rattle.asm_update.specs.declared.clash.Cause.TheVariants.{Mixed}
use Rattle.asm_aggregate.specs.laws.BagAlgebra.{Small, has-names, none_passes, small_below, summed}
use Rattle.asm_aggregate.specs.laws.BagLaws.{not_large}
use Rattle.asm_aggregate.specs.laws.SetAlgebra.{same_element}
use Rattle.asm_step.specs.Front.{bag_list}
use Rattle.asm_step.proofs.SetLists.{two}
use Rattle.asm_step.proofs.BagCounts.{count-lowered, count-raised, small-lowered, small-raised}
use Rattle.asm_step.proofs.BagLists.{Counts, list_of_bags, side_is, sum_added, sum_removed}

-- what two lists together add of an element, or remove, by what each of them does
module _ (am rm : Element → Action → ℕ) where
  abbrev added_in : List Action → List Action → Element → ℕ
  added_in xs ys q = sum_by (am q) ys + (sum_by (am q) xs - sum_by (rm q) ys)

  abbrev removed_in : List Action → List Action → Element → ℕ
  removed_in xs ys q = sum_by (rm q) xs + (sum_by (rm q) ys - sum_by (am q) xs)

  -- nothing of what neither names
  pub added_none : (xs ys : List Action) (q : Element) → sum_by (am q) (xs ++ ys) ≡ 0 → added_in xs ys q ≡ 0
  added_none xs ys q none = let sum = sum_by-append (am q) xs ys in omega (arith, none, sum)

  pub removed_none : (xs ys : List Action) (q : Element) → sum_by (rm q) (xs ++ ys) ≡ 0 → removed_in xs ys q ≡ 0
  removed_none xs ys q none = let sum = sum_by-append (rm q) xs ys in omega (arith, none, sum)

  module _ (adds : Counts am true) (removes : Counts rm false) (a r : ElementBag) (e : Element) (n : ℕ) (q : Element) where
    a_is : sum_by (am q) (bag_list a r) ≡ count a q
    a_is = sum_added am adds a r q

    r_is : sum_by (rm q) (bag_list a r) ≡ count r q
    r_is = sum_removed rm removes a r q

    abbrev plus : List Action
    plus = BagAdd e n ∷ []

    abbrev minus : List Action
    minus = BagRemove e n ∷ []

    here : Bool → ℕ
    here t = cond t n 0

    plus_added : sum_by (am q) plus ≡ cond (eq_by_cmp element_cmp q e) n 0
    plus_added = summed (am q) (BagAdd e n) [] ∙ add-zero _ ∙ adds.here q e n

    plus_removed : sum_by (rm q) plus ≡ 0
    plus_removed = summed (rm q) (BagAdd e n) [] ∙ add-zero _ ∙ removes.other q e n

    minus_added : sum_by (am q) minus ≡ 0
    minus_added = summed (am q) (BagRemove e n) [] ∙ add-zero _ ∙ adds.other q e n

    minus_removed : sum_by (rm q) minus ≡ cond (eq_by_cmp element_cmp q e) n 0
    minus_removed = summed (rm q) (BagRemove e n) [] ∙ add-zero _ ∙ removes.here q e n

    -- an addition
    pub added_by_plus : (up : ℕ) → up ≡ count a e + n → added_in (bag_list a r) plus q ≡ cond (eq_by_cmp element_cmp q e) up (count a q)
    added_by_plus up is = by_test (eq_by_cmp element_cmp q e) refl plus_added where
      by_test : (t : Bool) → eq_by_cmp element_cmp q e ≡ t → sum_by (am q) plus ≡ cond t n 0 →
          added_in (bag_list a r) plus q ≡ cond t up (count a q)
      by_test true h p =
          let same = ap (count a) (same_element q e h) in omega (arith, p, plus_removed, a_is, is, same)
      by_test false h p = omega (arith, p, plus_removed, a_is)

    pub removed_by_plus : removed_in (bag_list a r) plus q ≡ count r q
    removed_by_plus = omega (arith, plus_removed, r_is)

    -- a removal
    pub added_by_minus : (down : ℕ) → down ≡ count a e - n → added_in (bag_list a r) minus q ≡ cond (eq_by_cmp element_cmp q e) down (count a q)
    added_by_minus down is = by_test (eq_by_cmp element_cmp q e) refl minus_removed where
      by_test : (t : Bool) → eq_by_cmp element_cmp q e ≡ t → sum_by (rm q) minus ≡ cond t n 0 →
          added_in (bag_list a r) minus q ≡ cond t down (count a q)
      by_test true h p =
          let same = ap (count a) (same_element q e h) in omega (arith, p, minus_added, a_is, is, same)
      by_test false h p = omega (arith, p, minus_added, a_is)

    pub removed_by_minus : (up : ℕ) → up ≡ count r e + (n - count a e) →
        removed_in (bag_list a r) minus q ≡ cond (eq_by_cmp element_cmp q e) up (count r q)
    removed_by_minus up is = by_test (eq_by_cmp element_cmp q e) refl minus_removed where
      by_test : (t : Bool) → eq_by_cmp element_cmp q e ≡ t → sum_by (rm q) minus ≡ cond t n 0 →
          removed_in (bag_list a r) minus q ≡ cond t up (count r q)
      by_test true h p =
          let same = ap (count r) (same_element q e h) in
          let other = ap (count a) (same_element q e h) in omega (arith, p, a_is, r_is, is, same, other)
      by_test false h p = omega (arith, p, r_is)

-- how many of an element an action adds, or removes
abbrev of_adds : Element → Action → ℕ
of_adds e (BagAdd x n) = if eq_by_cmp element_cmp e x then n else 0
of_adds e _ = 0

abbrev of_removes : Element → Action → ℕ
of_removes e (BagRemove x n) = if eq_by_cmp element_cmp e x then n else 0
of_removes e _ = 0

pub adding : Counts of_adds true
adding = record { here = λ q k n. refl; other = λ q k n. refl }

pub removing : Counts of_removes false
removing = record { here = λ q k n. refl; other = λ q k n. refl }

-- none of an element that isn't named
not_at : (b : Bool) (n : ℕ) → b ≡ false → cond b n 0 ≡ 0
not_at b n h = ap (λ b. cond b n 0) h

not_added : (q : Element) (x : Action) → names q x ≡ false → of_adds q x ≡ 0
not_added q (BagAdd k n) h = not_at _ n h
not_added q x h = refl

not_removed : (q : Element) (x : Action) → names q x ≡ false → of_removes q x ≡ 0
not_removed q (BagRemove k n) h = not_at _ n h
not_removed q x h = refl

none_added : (q : Element) (xs : List Action) → list_any (names q) xs ≡ false → sum_by (of_adds q) xs ≡ 0
none_added q [] h = refl
none_added q (x ∷ xs) h =
    let parts = neither (names q x) (list_any (names q) xs) h in
    summed (of_adds q) x xs ∙ two (λ n m. n + m) (not_added q x parts.0) (none_added q xs parts.1)

none_removed : (q : Element) (xs : List Action) → list_any (names q) xs ≡ false → sum_by (of_removes q) xs ≡ 0
none_removed q [] h = refl
none_removed q (x ∷ xs) h =
    let parts = neither (names q x) (list_any (names q) xs) h in
    summed (of_removes q) x xs ∙ two (λ n m. n + m) (not_removed q x parts.0) (none_removed q xs parts.1)

-- lists of bags whose amounts fit
fair_joins : (xs ys : List Action) → list_all (is_of Bag) xs ≡ true → list_all (is_of Bag) ys ≡ true →
    list_any (is_either_large (joined_amount xs ys)) (named (xs ++ ys)) ≡ false →
    bag_joins xs ys ≡ Ok (bag_actions (joined_amount xs ys) (named (xs ++ ys)))
fair_joins xs ys h k m = rw (h, k, m) refl

-- one more addition
pub bags_added : (a r : ElementBag) (e : Element) (n up : ℕ) → Small a → Small r → up ≡ count a e + n → up < 2 ^ 32 →
    bag_joins (bag_list a r) (BagAdd e n ∷ []) ≡ Ok (bag_list (raised_to a e up) r)
bags_added a r e n up one other is fits =
    let xs = bag_list a r in
    let ys : List Action = BagAdd e n ∷ [] in
    let more = raised_to a e up in
    let small = small-raised a e up one fits in
    let rise : count a e ≤ up = omega (arith, is) in
    fair_joins xs ys (list_of_bags a r) refl
    (none_passes (is_either_large (joined_amount xs ys)) (named (xs ++ ys)) (λ q. two (λ b c. b || c)
    (not_large _ (subst (λ (n : ℕ). n < 2 ^ 32) (sym
    (added_by_plus of_adds of_removes adding removing a r e n q up is ∙ sym (count-raised a e up rise q))) (small_below more q small)))
    (not_large _ (subst (λ (n : ℕ). n < 2 ^ 32) (sym
    (removed_by_plus of_adds of_removes adding removing a r e n q)) (small_below r q other)))))
    ∙ ap (λ (xs : List Action). Ok xs) (two (λ xs ys. xs ++ ys)
    (side_is (added_in of_adds of_removes xs ys) true (xs ++ ys) more small
    (λ q. added_by_plus of_adds of_removes adding removing a r e n q up is ∙ sym (count-raised a e up rise q))
    (λ q out. added_none of_adds of_removes xs ys q (none_added q (xs ++ ys) (sym (has-names (xs ++ ys) q) ∙ out))))
    (side_is (removed_in of_adds of_removes xs ys) false (xs ++ ys) r other
    (λ q. removed_by_plus of_adds of_removes adding removing a r e n q)
    (λ q out. removed_none of_adds of_removes xs ys q (none_removed q (xs ++ ys) (sym (has-names (xs ++ ys) q) ∙ out)))))

-- one more removal: what was added goes first
pub bags_removed : (a r : ElementBag) (e : Element) (n up down : ℕ) → Small a → Small r → down ≡ count a e - n →
    up ≡ count r e + (n - count a e) → up < 2 ^ 32 →
    bag_joins (bag_list a r) (BagRemove e n ∷ []) ≡ Ok (bag_list (lowered_to a e down) (raised_to r e up))
bags_removed a r e n up down one other left is fits =
    let xs = bag_list a r in
    let ys : List Action = BagRemove e n ∷ [] in
    let less = lowered_to a e down in
    let more = raised_to r e up in
    let most = small_below a e one in
    let small = small-lowered a e down one (omega (arith, left, most)) in
    let large = small-raised r e up other fits in
    let fall : down ≤ count a e = omega (arith, left) in
    let rise : count r e ≤ up = omega (arith, is) in
    fair_joins xs ys (list_of_bags a r) refl
    (none_passes (is_either_large (joined_amount xs ys)) (named (xs ++ ys)) (λ q. two (λ b c. b || c)
    (not_large _ (subst (λ (n : ℕ). n < 2 ^ 32) (sym
    (added_by_minus of_adds of_removes adding removing a r e n q down left ∙ sym (count-lowered a e down fall q))) (small_below less q small)))
    (not_large _ (subst (λ (n : ℕ). n < 2 ^ 32) (sym
    (removed_by_minus of_adds of_removes adding removing a r e n q up is ∙ sym (count-raised r e up rise q))) (small_below more q large)))))
    ∙ ap (λ (xs : List Action). Ok xs) (two (λ xs ys. xs ++ ys)
    (side_is (added_in of_adds of_removes xs ys) true (xs ++ ys) less small
    (λ q. added_by_minus of_adds of_removes adding removing a r e n q down left ∙ sym (count-lowered a e down fall q))
    (λ q out. added_none of_adds of_removes xs ys q (none_added q (xs ++ ys) (sym (has-names (xs ++ ys) q) ∙ out))))
    (side_is (removed_in of_adds of_removes xs ys) false (xs ++ ys) more large
    (λ q. removed_by_minus of_adds of_removes adding removing a r e n q up is ∙ sym (count-raised r e up rise q))
    (λ q out. removed_none of_adds of_removes xs ys q (none_removed q (xs ++ ys) (sym (has-names (xs ++ ys) q) ∙ out)))))

-- a list of bags has no cause
pub bags_fair : (xs : List Action) → list_all (is_of Bag) xs ≡ true → refused (bag_joins xs []) ≡ None
bags_fair xs h =
    ap refused (λ i. first_cause ((not (h i), Refused Mixed) ∷ (false, Refused Mixed) ∷ (large, TooLarge) ∷ []) joined)
    ∙ by_test large joined where
      large : Bool
      large = list_any (is_either_large (joined_amount xs [])) (named (xs ++ []))

      joined : List Action
      joined = bag_actions (joined_amount xs []) (named (xs ++ []))

      by_test : (b : Bool) (ys : List Action) →
          refused (first_cause ((false, Refused Mixed) ∷ (false, Refused Mixed) ∷ (b, TooLarge) ∷ []) ys) ≡ None
      by_test true ys = refl
      by_test false ys = refl
