-- Counts of a bag that are raised and lowered, and how many elements it has then.
use Rattle.std.proofs.Common.{◌≡◌, ℕ, zero, suc, ◌+◌, ◌-◌, ◌≤◌, ◌<◌, ◌^◌, nat_lt, nat_eq, Bool, true, false, cond, ◌&&◌, refl, sym, ap, subst, ◌∙◌, arith}
use Rattle.std.specs.Prelude.{Option, is_some, IfSome}
use Rattle.std.specs.FinMap as finite
use Rattle.std.specs.Ordering.{eq_by_cmp}
use Rattle.std.proofs.lemmas.Bool.{ltb-false, ltb-true, lt-ltb, eqb-true, false≢true}
use Rattle.asm_element.proofs.BagTree.{count-set_count}
use Rattle.asm_element.specs.Bag.{ElementBag, IsCount, count, counts, elements, entries, lowered_to, raised_to, set_count}
use Rattle.asm_element.specs.Bag as bag
use Rattle.asm_element.specs.Tests.{itself}
use Rattle.asm_element.specs.Element.{element_cmp, element_cmp_total}
use Rattle.asm_element.specs.declared.element.Element.{Element}
use Rattle.asm_aggregate.specs.laws.BagAlgebra.{Small, get-set_count, held, same_counts, small_bag, small_below, small_held}
use Rattle.asm_aggregate.specs.laws.SetAlgebra.{same_element}
use Rattle.asm_step.proofs.SetLists.{two}

-- a count that is set, or was so before
module _ (b : ElementBag) (e : Element) (n : ℕ) where
  abbrev set_if : Bool → ElementBag
  set_if t = cond t (set_count b e n) b

  count-set_if : (t : Bool) → (t ≡ false → count b e ≡ n) → (q : Element) →
      count (set_if t) q ≡ cond (eq_by_cmp element_cmp q e) n (count b q)
  count-set_if true was q = count-set_count b e n q
  count-set_if false was q = by_test (eq_by_cmp element_cmp q e) refl where
    by_test : (s : Bool) → eq_by_cmp element_cmp q e ≡ s → count b q ≡ cond s n (count b q)
    by_test true h = ap (count b) (same_element q e h) ∙ was refl
    by_test false h = refl

  small-set_if : (t : Bool) → Small b → n < 2 ^ 32 → Small (set_if t)
  small-set_if false small below = small
  small-set_if true small below =
      λ q. subst (λ (o : Option ℕ). IfSome o IsCount) (sym (get-set_count b e n q)) (by_test q (eq_by_cmp element_cmp q e) (small q)) where
        here : (m : ℕ) → m < 2 ^ 32 → IfSome (held m) IsCount
        here zero h = tt
        here (suc m) h = (omega arith, h)

        by_test : (q : Element) (s : Bool) → IfSome (finite.get b q) IsCount → IfSome (cond s (held n) (finite.get b q)) IsCount
        by_test q true h = here n below
        by_test q false h = h

  pub count-raised : count b e ≤ n → (q : Element) →
      count (raised_to b e n) q ≡ cond (eq_by_cmp element_cmp q e) n (count b q)
  count-raised up = count-set_if (nat_lt (count b e) n) (λ h. let k = ltb-false (count b e) n h in omega (arith, k, up))

  pub count-lowered : n ≤ count b e → (q : Element) →
      count (lowered_to b e n) q ≡ cond (eq_by_cmp element_cmp q e) n (count b q)
  count-lowered down = count-set_if (nat_lt n (count b e)) (λ h. let k = ltb-false n (count b e) h in omega (arith, k, down))

  pub small-raised : Small b → n < 2 ^ 32 → Small (raised_to b e n)
  small-raised = small-set_if (nat_lt (count b e) n)

  pub small-lowered : Small b → n < 2 ^ 32 → Small (lowered_to b e n)
  small-lowered = small-set_if (nat_lt n (count b e))

-- bags with the same counts
same_small : (b c : ElementBag) → Small b → Small c → ((q : Element) → count b q ≡ count c q) → b ≡ c
same_small b c one other same =
    same_counts b c (λ q. small_held b q one ∙ ap held (same q) ∙ sym (small_held c q other))

-- what is raised and then lowered to what it was
pub lowered_back : (b : ElementBag) (e : Element) (n : ℕ) → bag.IsProper b → count b e ≤ n → n < 2 ^ 32 →
    lowered_to (raised_to b e n) e (count b e) ≡ b
lowered_back b e n proper up below =
    let small = small_bag b proper.1 in
    let raised = raised_to b e n in
    let was : count raised e ≡ n = count-raised b e n up e ∙ ap (λ s. cond s n (count b e)) (itself element_cmp_total e) in
    same_small (lowered_to raised e (count b e)) b
    (small-lowered raised e (count b e) (small-raised b e n small below) (small_below b e small)) small
    (λ q. count-lowered raised e (count b e) (omega (arith, up, was)) q
    ∙ ap (cond (eq_by_cmp element_cmp q e) (count b e)) (count-raised b e n up q)
    ∙ by_test q (eq_by_cmp element_cmp q e) refl) where
      by_test : (q : Element) (s : Bool) → eq_by_cmp element_cmp q e ≡ s →
          cond s (count b e) (cond s n (count b q)) ≡ count b q
      by_test q true h = ap (count b) (sym (same_element q e h))
      by_test q false h = refl

-- what stays as it is
pub lowered_none : (b : ElementBag) (e : Element) (n : ℕ) → Small b → n ≡ count b e → lowered_to b e n ≡ b
lowered_none b e n small is =
    let below = small_below b e small in
    same_small (lowered_to b e n) b (small-lowered b e n small (omega (arith, is, below))) small
    (λ q. count-lowered b e n (omega (arith, is)) q ∙ by_test q (eq_by_cmp element_cmp q e) refl) where
      by_test : (q : Element) (s : Bool) → eq_by_cmp element_cmp q e ≡ s → cond s n (count b q) ≡ count b q
      by_test q true h = is ∙ ap (count b) (sym (same_element q e h))
      by_test q false h = refl

-- whether an element comes to a bag where its count was the first number and is the second
abbrev pub comes : ℕ → ℕ → Bool
comes was is = nat_eq was 0 && nat_lt 0 is

abbrev coming : ℕ → ℕ → ℕ
coming was is = cond (comes was is) 1 0

is_coming : (n : ℕ) → coming 0 (suc n) ≡ 1
is_coming n = ap (λ t. cond {A = ℕ} (nat_eq 0 0 && t) 1 0) (lt-ltb 0 (suc n) (omega arith))

not_coming : (was is : ℕ) → (was ≡ 0 → is ≡ 0) → coming was is ≡ 0
not_coming was is h = by_test (nat_eq was 0) refl (nat_lt 0 is) refl where
  by_test : (s : Bool) → nat_eq was 0 ≡ s → (t : Bool) → nat_lt 0 is ≡ t → cond {A = ℕ} (s && t) 1 0 ≡ 0
  by_test true k true l = let none = h (eqb-true was 0 k) in let some = ltb-true 0 is l in absurd (omega (arith, none, some))
  by_test true k false l = refl
  by_test false k t l = refl

module _ (b : ElementBag) (e : Element) (small : Small b) where
  there : finite.contains_key b e ≡ is_some (held (count b e))
  there = ap is_some (small_held b e small)

  abbrev long : ℕ → ℕ
  long n = finite.len (set_count b e n)

  some_long : (l : ℕ) → finite.len b ≡ l → finite.contains_key b e ≡ true → 1 ≤ finite.len b
  some_long zero none is =
      absurd (false≢true (sym (ap is_some (finite.get-empty element_cmp e))
      ∙ ap (λ (c : ElementBag). finite.contains_key c e) (sym (finite.empty_of_len b none)) ∙ is))
  some_long (suc l) long is = omega (arith, long)

  long_set : (n : ℕ) → long n + coming n (count b e) ≡ finite.len b + coming (count b e) n
  long_set zero = by_count (count b e) there (finite.len-remove element_cmp_total b e) where
    by_count : (m : ℕ) → finite.contains_key b e ≡ is_some (held m) →
        long 0 ≡ cond (finite.contains_key b e) (finite.len b - 1) (finite.len b) →
        long 0 + coming 0 m ≡ finite.len b + coming m 0
    by_count zero at is =
        let k = is ∙ ap (λ t. cond t (finite.len b - 1) (finite.len b)) at in
        let none = not_coming 0 0 (λ h. h) in omega (arith, k, none)
    by_count (suc m) at is =
        let k = is ∙ ap (λ t. cond t (finite.len b - 1) (finite.len b)) at in
        let some = some_long (finite.len b) refl at in
        let one = is_coming m in
        let none = not_coming (suc m) 0 (λ h. refl) in omega (arith, k, some, one, none)
  long_set (suc n) = by_count (count b e) there (finite.len-insert element_cmp_total b e (suc n)) where
    by_count : (m : ℕ) → finite.contains_key b e ≡ is_some (held m) →
        long (suc n) ≡ cond (finite.contains_key b e) (finite.len b) (finite.len b + 1) →
        long (suc n) + coming (suc n) m ≡ finite.len b + coming m (suc n)
    by_count zero at is =
        let k = is ∙ ap (λ t. cond t (finite.len b) (finite.len b + 1)) at in
        let one = is_coming n in
        let none = not_coming (suc n) 0 (λ h. refl) in omega (arith, k, one, none)
    by_count (suc m) at is =
        let k = is ∙ ap (λ t. cond t (finite.len b) (finite.len b + 1)) at in
        let none = not_coming (suc n) (suc m) (λ h. absurd (omega (arith, h))) in
        let other = not_coming (suc m) (suc n) (λ h. absurd (omega (arith, h))) in omega (arith, k, none, other)

  pub long_raised : (n : ℕ) → count b e ≤ n → finite.len (raised_to b e n) ≡ finite.len b + coming (count b e) n
  long_raised n up = by_test (nat_lt (count b e) n) refl where
    by_test : (t : Bool) → nat_lt (count b e) n ≡ t →
        finite.len (cond t (set_count b e n) b) ≡ finite.len b + coming (count b e) n
    by_test true h =
        let set = long_set n in
        let none = not_coming n (count b e) (λ z. omega (arith, z, up)) in omega (arith, set, none)
    by_test false h =
        let k = ltb-false (count b e) n h in
        let none = not_coming (count b e) n (λ z. omega (arith, z, k)) in omega (arith, none)

  pub long_lowered : (n : ℕ) → n ≤ count b e → finite.len (lowered_to b e n) + coming n (count b e) ≡ finite.len b
  long_lowered n down = by_test (nat_lt n (count b e)) refl where
    by_test : (t : Bool) → nat_lt n (count b e) ≡ t →
        finite.len (cond t (set_count b e n) b) + coming n (count b e) ≡ finite.len b
    by_test true h =
        let set = long_set n in
        let none = not_coming (count b e) n (λ z. omega (arith, z, down)) in omega (arith, set, none)
    by_test false h =
        let k = ltb-false n (count b e) h in
        let none = not_coming n (count b e) (λ z. omega (arith, z, k)) in omega (arith, none)

pub restored : (b raised back : ElementBag) (e : Element) (n was : ℕ) → bag.IsProper b → count b e ≤ n → n < 2 ^ 32 →
    was ≡ count b e → raised ≡ raised_to b e n → back ≡ lowered_to raised e was → back ≡ b
restored b raised back e n was proper up below is rise fall =
    fall ∙ two (λ s m. lowered_to s e m) rise is ∙ lowered_back b e n proper up below

pub recounted : (s t n m : ElementBag) (e : Element) (up down before had : ℕ) (come go : Bool) (x y : ℕ) →
    bag.IsProper s → bag.IsProper t → count s e ≤ up → down ≤ count t e → n ≡ raised_to s e up → m ≡ lowered_to t e down →
    before ≡ count s e → had ≡ count t e → come ≡ comes before up → go ≡ comes down had →
    x ≡ cond come 1 0 → y ≡ cond go 1 0 →
    (finite.len n + finite.len m + y ≡ finite.len s + finite.len t + x) × (x ≤ 1)
recounted s t n m e up down before had come go x y one other rise fall raised lowered was is comes_is goes_is more less =
    let long = ap finite.len raised ∙ long_raised s e (small_bag s one.1) up rise in
    let short = long_lowered t e (small_bag t other.1) down fall in
    let now = ap finite.len lowered in
    let x_is : x ≡ coming (count s e) up = more ∙ ap (λ t. cond t 1 0) (comes_is ∙ ap (λ k. comes k up) was) in
    let y_is : y ≡ coming down (count t e) = less ∙ ap (λ t. cond t 1 0) (goes_is ∙ ap (λ k. comes down k) is) in
    (omega (arith, long, short, now, x_is, y_is), at_most come more) where
      at_most : (c : Bool) → x ≡ cond c 1 0 → x ≤ 1
      at_most true h = omega (arith, h)
      at_most false h = omega (arith, h)
