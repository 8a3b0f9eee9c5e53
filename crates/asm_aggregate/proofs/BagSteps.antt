-- Bags, sums of amounts and lists of actions, one step of a loop at a time.
use Rattle.std.proofs.Common.{◌≡◌, ℕ, ◌+◌, ◌-◌, ◌*◌, ◌<◌, ◌≤◌, ◌^◌, Bool, true, false, cond, ◌||◌, List, [], ◌∷◌, ◌++◌}
use Rattle.std.proofs.Common.{map, length, take, refl, sym, ap, subst, ◌∙◌, inl, inr, arith, nat_lt, append_assoc}
use Rattle.std.proofs.Common.{add-zero}
use Rattle.std.specs.Prelude.{sum_by, Ok, Err}
use Rattle.std.specs.List.{list_any}
use Rattle.std.specs.Ordering.{eq_by_cmp}
use Rattle.std.proofs.lemmas.List.{take_all}
use Rattle.std.proofs.lemmas.List.Folds.{list_any-append}
use Rattle.std.proofs.lemmas.List.Sums.{sum_by_more, sum_by-take-le}
use Rattle.std.proofs.lemmas.Bool.{lt-ltb, cases_lt, false≢true}
use Rattle.asm_element.proofs.BagTree.{count-set_count}
use Rattle.asm_element.specs.Element.{element_cmp, element_cmp_total}
use Rattle.asm_element.specs.declared.element.Element.{Element}
use Rattle.asm_element.specs.declared.value.Value.TheVariants as values
use Rattle.asm_element.specs.Set as set
use Rattle.asm_element.specs.Bag.{ElementBag, count, set_count}
use Rattle.asm_element.specs.Tests.{itself}
use Rattle.asm_update.specs.declared.action.Action.{Action}
use Rattle.asm_update.specs.declared.clash.Cause.TheVariants.{Short, Large}
use Rattle.asm_aggregate.specs.Steps.{names, one_action, IsMoreBy}
use Rattle.asm_aggregate.specs.BagMeaning.{amount, amount_in, element_of, named, is_large, new_count, counted}
use Rattle.asm_aggregate.specs.BagMeaning.{renewed, short, large, tabled}
use Rattle.asm_aggregate.specs.BagMeaning.{bag_action}
use Rattle.asm_aggregate.specs.BagMeaning.{bag_side, is_either_large}
use Rattle.asm_aggregate.specs.declared.side.Side.{Side}
use Rattle.asm_aggregate.specs.declared.side.Side.TheVariants.{Added, Removed}
use Rattle.asm_aggregate.specs.laws.SetAlgebra.{same_element, contains-empty, contains-elements_by, found}
use Rattle.asm_aggregate.specs.laws.BagAlgebra.{has, Small, held, unnamed, get-renewed}
use Rattle.asm_aggregate.specs.laws.BagAlgebra.{small_held, small_below, same_counts}
use Rattle.asm_aggregate.specs.laws.BagLaws.{none_short, none_large}
use Rattle.asm_aggregate.proofs.SetSteps.{IsItem}

pub sum_more : (f : Action → ℕ) (xs : List Action) (i : ℕ) (x : Action) → IsItem xs i x →
    sum_by f (take (i + 1) xs) ≡ sum_by f (take i xs) + f x
sum_more f xs i x item = sum_by_more f xs i x item.within ∙ ap (λ y. sum_by f (take i xs) + f y) (sym item.read)

part_of_sum : (f : Action → ℕ) (xs : List Action) (i : ℕ) (x : Action) → IsItem xs i x →
    sum_by f (take i xs) + f x ≤ sum_by f xs
part_of_sum f xs i x item =
    let more = sum_more f xs i x item in
    let le = sum_by-take-le f xs (i + 1) in
    omega (arith, more, le)

-- one action
amount_at : (side : Side) (a : Action) (x : Element) (n k : ℕ) → a ≡ bag_action side x n → k ≡ n → (e : Element) →
    amount side e a ≡ cond (eq_by_cmp element_cmp e x) k 0
amount_at Added a x n k is got e = ap (amount Added e) is ∙ ap (λ m. cond (eq_by_cmp element_cmp e x) m 0) (sym got)
amount_at Removed a x n k is got e = ap (amount Removed e) is ∙ ap (λ m. cond (eq_by_cmp element_cmp e x) m 0) (sym got)

amount_here : (side : Side) (a : Action) (x : Element) (n k : ℕ) → a ≡ bag_action side x n → k ≡ n → amount side x a ≡ k
amount_here side a x n k is got = amount_at side a x n k is got x ∙ ap (λ t. cond t k 0) (itself element_cmp_total x)

-- what isn't there as often, and what doesn't fit
pub short_here : (b : ElementBag) (a : Action) (x : Element) (n k : ℕ) →
    a ≡ bag_action Removed x n → k ≡ n → (k ≤ count b x → false ≡ true) → (e : Element) × (count b e < amount Removed e a)
short_here b a x n k is got fewer =
    let r = amount_here Removed a x n k is got in
    elim (cases_lt (count b x) k) [
      | inl less ↦ (x, omega (arith, r, less))
      | inr enough ↦ absurd (false≢true (fewer enough))
    ]

pub large_here : (b : ElementBag) (a : Action) (x : Element) (n k : ℕ) →
    a ≡ bag_action Added x n → k ≡ n → (count b x + k < 2 ^ 32 → false ≡ true) →
    (e : Element) × (4294967295 < count b e + amount Added e a)
large_here b a x n k is got more =
    let r = amount_here Added a x n k is got in
    elim (cases_lt (count b x + k) (2 ^ 32)) [
      | inl fits ↦ absurd (false≢true (more fits))
      | inr above ↦ (x, omega (arith, r, above))
    ]

taken : (c : Bool) (m n q : ℕ) → n ≤ m → (c ≡ true → q ≡ m) → cond c (m - n) q + cond c n 0 ≡ q
taken true m n q enough same = let e = same refl in omega (arith, e)
taken false m n q enough same = omega arith

put : (c : Bool) (m n q : ℕ) → (c ≡ true → q ≡ m) → q + cond c n 0 ≡ cond c (m + n) q
put true m n q same = let e = same refl in omega (arith, e)
put false m n q same = omega arith

pub take_counts : (b new : ElementBag) (a : Action) (x : Element) (n k : ℕ) →
    a ≡ bag_action Removed x n → k ≡ n → k ≤ count b x → new ≡ set_count b x (count b x - k) →
    IsMoreBy (count new) (count b) (λ e. amount Removed e a)
take_counts b new a x n k is got enough out e =
    (λ i. (ap (λ c. count c e) out ∙ count-set_count b x (count b x - k) e) i + amount_at Removed a x n k is got e i)
    ∙ taken (eq_by_cmp element_cmp e x) (count b x) k (count b e) enough (λ same. ap (count b) (same_element e x same))

pub put_counts : (b new : ElementBag) (a : Action) (x : Element) (n k : ℕ) →
    a ≡ bag_action Added x n → k ≡ n → new ≡ set_count b x (count b x + k) →
    IsMoreBy (count b) (count new) (λ e. amount Added e a)
put_counts b new a x n k is got come e =
    ap (λ m. count b e + m) (amount_at Added a x n k is got e)
    ∙ put (eq_by_cmp element_cmp e x) (count b x) k (count b e) (λ same. ap (count b) (same_element e x same))
    ∙ sym (ap (λ c. count c e) come ∙ count-set_count b x (count b x + k) e)

-- one bag has of each element this much more than another, by one side of a list of actions
pub record IsChanged (side : Side) (less : ElementBag) (xs : List Action) (more : ElementBag) : Type 0 where
  pub counts : IsMoreBy (count less) (count more) (amount_in side xs)

pub changed_none : (side : Side) (b : ElementBag) → IsChanged side b [] b
changed_none side b = record { counts = λ e. add-zero (count b e) }

pub changed_all : (side : Side) (less more : ElementBag) (xs : List Action) (i : ℕ) → length xs ≤ i →
    IsChanged side less (take i xs) more → IsMoreBy (count less) (count more) (amount_in side xs)
changed_all side less more xs i whole had e =
    ap (λ l. count less e + amount_in side l e) (sym (take_all i xs whole)) ∙ had.counts e

pub taken_more : (b new t : ElementBag) (xs : List Action) (i : ℕ) (x : Action) → IsItem xs i x →
    IsMoreBy (count new) (count b) (λ e. amount Removed e x) → IsChanged Removed b (take i xs) t →
    IsChanged Removed new (take (i + 1) xs) t
taken_more b new t xs i x item step had = record {
  counts = λ e.
      let more = sum_more (amount Removed e) xs i x item in
      let here = step e in
      let before = had.counts e in
      omega (arith, more, here, before);
}

pub put_more : (b new t : ElementBag) (xs : List Action) (i : ℕ) (x : Action) → IsItem xs i x →
    IsMoreBy (count b) (count new) (λ e. amount Added e x) → IsChanged Added t (take i xs) b →
    IsChanged Added t (take (i + 1) xs) new
put_more b new t xs i x item step had = record {
  counts = λ e.
      let more = sum_more (amount Added e) xs i x item in
      let here = step e in
      let before = had.counts e in
      omega (arith, more, here, before);
}

pub short_on_the_way : (b t : ElementBag) (xs : List Action) (i : ℕ) (x : Action) → IsItem xs i x →
    IsChanged Removed b (take i xs) t → (e : Element) × (count b e < amount Removed e x) →
    (e : Element) × (count t e < amount_in Removed xs e)
short_on_the_way b t xs i x item had less =
    let part = part_of_sum (amount Removed less.0) xs i x item in
    let before = had.counts less.0 in
    let here = less.1 in
    (less.0, omega (arith, part, before, here))

pub large_on_the_way : (b t : ElementBag) (xs : List Action) (i : ℕ) (x : Action) → IsItem xs i x →
    IsChanged Added t (take i xs) b → (e : Element) × (4294967295 < count b e + amount Added e x) →
    (e : Element) × (4294967295 < count t e + amount_in Added xs e)
large_on_the_way b t xs i x item had more =
    let part = part_of_sum (amount Added more.0) xs i x item in
    let before = had.counts more.0 in
    let here = more.1 in
    (more.0, omega (arith, part, before, here))

-- the tests of the table
pub passes_somewhere : (p : Element → Bool) (es : List Element) (q : Element) → has q es ≡ true → p q ≡ true →
    list_any p es ≡ true
passes_somewhere p es q h k = at (list_any p es) refl where
  at : (b : Bool) → list_any p es ≡ b → list_any p es ≡ true
  at true e = e
  at false e = let none = found p es q e h in cc

pub named_if : (side : Side) (actions : List Action) (q : Element) → 0 < amount_in side actions q →
    has q (named actions) ≡ true
named_if side actions q some = at (has q (named actions)) refl where
  at : (b : Bool) → has q (named actions) ≡ b → has q (named actions) ≡ true
  at true e = e
  at false e = let none = unnamed side actions q e in absurd (omega (arith, none, some))

pub is_short : (b : ElementBag) (actions : List Action) → (e : Element) × (count b e < amount_in Removed actions e) →
    short b actions ≡ true
is_short b actions less =
    let here = less.1 in
    passes_somewhere (λ e. nat_lt (count b e) (amount_in Removed actions e)) (named actions) less.0
    (named_if Removed actions less.0 (omega (arith, here))) (lt-ltb _ _ less.1)

pub not_short : (b rest : ElementBag) (actions : List Action) →
    IsMoreBy (count rest) (count b) (amount_in Removed actions) → short b actions ≡ false
not_short b rest actions h = none_short b actions (λ e. let here = h e in omega (arith, here))

pub is_above : (b rest : ElementBag) (actions : List Action) → Small b →
    IsMoreBy (count rest) (count b) (amount_in Removed actions) →
    (e : Element) × (4294967295 < count rest e + amount_in Added actions e) → large b actions ≡ true
is_above b rest actions small h more =
    let here = h more.0 in
    let above = more.1 in
    let below = small_below b more.0 small in
    let new : 4294967295 < new_count b actions more.0 = omega (arith, here, above) in
    passes_somewhere (λ e. is_large (new_count b actions e)) (named actions) more.0
    (named_if Added actions more.0 (omega (arith, here, above, below))) (lt-ltb _ _ new)

pub result_is : (b rest last : ElementBag) (actions : List Action) → Small b → Small last →
    IsMoreBy (count rest) (count b) (amount_in Removed actions) →
    IsMoreBy (count rest) (count last) (amount_in Added actions) → tabled b actions ≡ Ok (values.Bag last)
result_is b rest last actions small_b small_last h k =
    let enough = not_short b rest actions h in
    let counts : (e : Element) → count last e ≡ new_count b actions e =
    λ e. (let x = h e in let y = k e in omega (arith, x, y)) in
    let fits : large b actions ≡ false =
    none_large b actions (λ e. subst (λ (n : ℕ). n < 2 ^ 32) (counts e) (small_below last e small_last)) in
    let same : renewed b actions ≡ last =
    same_counts _ _
    (λ e. get-renewed b actions e small_b ∙ ap held (sym (counts e)) ∙ sym (small_held last e small_last)) in
    λ i. cond (enough i) (Err Short) (cond (fits i) (Err Large) (Ok (values.Bag (same i))))

-- how many of an element a list of actions adds or removes
pub record Summed (f : Action → ℕ) (xs : List Action) (i total : ℕ) : Type 0 where
  pub is : total ≡ sum_by f (take i xs)
  pub bound : total ≤ i * 4294967295

pub summed_more : (f : Action → ℕ) (xs : List Action) (i : ℕ) (x : Action) (total n new : ℕ) → IsItem xs i x →
    n ≡ f x → n < 2 ^ 32 → new ≡ total + n → Summed f xs i total → Summed f xs (i + 1) new
summed_more f xs i x total n new item got fits sum had =
    let more = sum_more f xs i x item in
    let is = had.is in
    let bound = had.bound in
    record { is = omega (arith, more, is, got, sum); bound = omega (arith, bound, fits, sum) }

pub summed_all : (f : Action → ℕ) (xs : List Action) (i total : ℕ) → length xs ≤ i → Summed f xs i total →
    total ≡ sum_by f xs
summed_all f xs i total whole had = had.is ∙ ap (sum_by f) (take_all i xs whole)

-- the elements that two lists of actions name
pub named_both : (none one both : set.ElementSet) (first second : List Action) → none ≡ set.empty →
    ((e : Element) → set.contains one e ≡ (set.contains none e || list_any (names e) first)) →
    ((e : Element) → set.contains both e ≡ (set.contains one e || list_any (names e) second)) →
    set.elements both ≡ named (first ++ second)
named_both none one both first second empty h k = ap set.elements (set.same_set _ _ (λ e.
    k e
    ∙ ap (λ b. b || list_any (names e) second) (h e
    ∙ ap (λ b. b || list_any (names e) first) (ap (λ s. set.contains s e) empty ∙ contains-empty e))
    ∙ sym (list_any-append (names e) first second) ∙ sym (contains-elements_by element_of (first ++ second) e)))

-- the actions of one element more
bag_side-cons : (side : Side) (f : Element → ℕ) (x : Element) (rest : List Element) →
    bag_side side f (x ∷ rest) ≡ one_action side x (f x) ++ bag_side side f rest
bag_side-cons side f x rest = at (nat_lt 0 (f x)) where
  at : (b : Bool) → map (λ e. bag_action side e (f e)) (cond b (x ∷ counted f rest) (counted f rest))
      ≡ cond b (bag_action side x (f x) ∷ []) [] ++ bag_side side f rest
  at true = refl
  at false = refl

-- an amount of an element that was put at the end of a list of actions
pub record IsPushed (side : Side) (f : Side → Element → ℕ) (x : Element) (items new : List Action) : Type 0 where
  pub n : ℕ
  pub is : n ≡ f side x
  pub low : is_large n ≡ false
  pub list : new ≡ items ++ one_action side x n

-- two lists to which the actions of the elements that are left are still to be added
pub record AreJoining (f : Side → Element → ℕ) (additions removals : List Action)
    (left all : List Element) : Type 0 where
  pub adds : additions ++ bag_side Added (f Added) left ≡ bag_side Added (f Added) all
  pub removes : removals ++ bag_side Removed (f Removed) left ≡ bag_side Removed (f Removed) all
  pub small : list_any (is_either_large f) left ≡ list_any (is_either_large f) all

module _ (f : Side → Element → ℕ) where
  one_pushed : (side : Side) (items new whole : List Action) (left rest : List Element) (x : Element) →
      left ≡ x ∷ rest → IsPushed side f x items new → items ++ bag_side side (f side) left ≡ whole →
      new ++ bag_side side (f side) rest ≡ whole
  one_pushed side items new whole left rest x step push had =
      ap (λ l. l ++ bag_side side (f side) rest) (push.list ∙ ap (λ m. items ++ one_action side x m) push.is)
      ∙ append_assoc items (one_action side x (f side x)) (bag_side side (f side) rest)
      ∙ ap (λ l. items ++ l) (sym (ap (bag_side side (f side)) step ∙ bag_side-cons side (f side) x rest)) ∙ had

  pub joining_more : (additions removals more_additions more_removals : List Action) (left rest all : List Element)
      (x : Element) → left ≡ x ∷ rest → IsPushed Added f x additions more_additions →
      IsPushed Removed f x removals more_removals → AreJoining f additions removals left all →
      AreJoining f more_additions more_removals rest all
  joining_more additions removals more_additions more_removals left rest all x step add remove had = record {
    adds = one_pushed Added additions more_additions _ left rest x step add had.adds;
    removes = one_pushed Removed removals more_removals _ left rest x step remove had.removes;
    small =
        sym (ap (list_any (is_either_large f)) step
        ∙ (λ i. ((ap is_large (sym add.is) ∙ add.low) i || (ap is_large (sym remove.is) ∙ remove.low) i)
        || list_any (is_either_large f) rest)) ∙ had.small;
  }
