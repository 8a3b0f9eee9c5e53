-- The aggregator of bags keeps the laws.
use Rattle.std.proofs.Common.{◌≡◌, ◌≢◌, ℕ, ◌+◌, ◌-◌, ◌<◌, ◌≤◌, ◌^◌, Bool, true, false, cond, not, ◌||◌, List, [], ◌∷◌}
use Rattle.std.proofs.Common.{◌++◌, refl, sym, ap, subst, ◌∙◌, arith, nat_lt}
use Rattle.std.specs.Prelude.{Ok, Err, Option, None, Some, unwrap_or, is_some, IsPermutation}
use Rattle.std.specs.List.{list_any, list_all}
use Rattle.std.proofs.lemmas.Bool.{not-false, ltb-false, le-ltb}
use Rattle.std.proofs.lemmas.Bool.Decides.{nat_tests}
use Rattle.std.proofs.lemmas.List.Elements.{All-head}
use Rattle.std.proofs.lemmas.List.Sums.{sum_by-append}
use Rattle.std.proofs.lemmas.List.Sorted.{sum_by-IsPermutation}
use Rattle.asm_element.specs.declared.element.Element.{Element}
use Rattle.asm_element.specs.Bag.{ElementBag, count}
use Rattle.asm_element.specs.Value as value
use Rattle.asm_element.specs.declared.value.Value.{Value}
use Rattle.asm_element.specs.declared.value.Value.TheVariants as values
use Rattle.asm_update.specs.Action.{is_of, kind_of, IsProper, AllProper}
use Rattle.asm_update.specs.Aggregator.{AggregatorLaws, NoJoin, after}
use Rattle.asm_update.specs.Fire.{GroupResult}
use Rattle.asm_update.specs.declared.action.Action.{Action}
use Rattle.asm_update.specs.declared.action.Action.TheVariants.{BagAdd, BagRemove}
use Rattle.asm_update.specs.declared.action.Family.{Family}
use Rattle.asm_update.specs.declared.action.Family.TheVariants.{Bag}
use Rattle.asm_update.specs.declared.clash.Cause.TheVariants.{Mixed, Kind, Against, Short, Large}
use Rattle.asm_element.specs.Element.{element_cmp_total}
use Rattle.asm_element.specs.Tests.{itself, ok_is}
use Rattle.asm_aggregate.specs.Families.{is_kind}
use Rattle.asm_aggregate.specs.BagMeaning.{owns_bags, counts, amount, amount_in, named, is_large, new_count, recounted}
use Rattle.asm_aggregate.specs.BagMeaning.{joined_amount, is_either_large, bag_actions, bag_result, bag_joins}
use Rattle.asm_aggregate.specs.BagMeaning.{bag_meaning, bag_action, renewed, short, large, tabled}
use Rattle.asm_aggregate.specs.declared.side.Side.{Side}
use Rattle.asm_aggregate.specs.declared.side.Side.TheVariants.{Added, Removed}
use Rattle.asm_aggregate.specs.laws.FamilyLemmas.{kind_is, all_of_one, all-IsPermutation, all_partial, joined_family}
use Rattle.asm_aggregate.specs.laws.FamilyLemmas.{nil_parts}
use Rattle.asm_aggregate.specs.laws.TableLemmas.{passed}
use Rattle.asm_aggregate.specs.laws.SetAlgebra.{elements-empty}
use Rattle.asm_aggregate.specs.laws.BagAlgebra.{has, Small, held, unnamed, fails_everywhere, none_passes}
use Rattle.asm_aggregate.specs.laws.BagAlgebra.{get-renewed, count-renewed, small_renewed, small_below, small_held}
use Rattle.asm_aggregate.specs.laws.BagAlgebra.{small_bag, bag_small, same_counts, amount-bag_actions, all-bag_actions}
use Rattle.asm_aggregate.specs.laws.BagAlgebra.{named-IsPermutation, amount-bag_action, summed, renewed_elements}

at_none : (n m : ℕ) → m ≡ 0 → nat_lt n m ≡ false
at_none n m h = grind (arith, nat_tests)

small_number : (n : ℕ) → is_large n ≡ false → n < 2 ^ 32
small_number n h = let k = ltb-false 4294967295 n h in omega arith

pub not_large : (n : ℕ) → n < 2 ^ 32 → is_large n ≡ false
not_large n h = le-ltb 4294967295 n (omega arith)

short_none : (b : ElementBag) (actions : List Action) → short b actions ≡ false → (q : Element) →
    amount_in Removed actions q ≤ count b q
short_none b actions h q =
    ltb-false _ _ (fails_everywhere (λ e. nat_lt (count b e) (amount_in Removed actions e)) (named actions) h
    (λ e out. at_none (count b e) _ (unnamed Removed actions e out)) q)

pub none_short : (b : ElementBag) (actions : List Action) → ((q : Element) → amount_in Removed actions q ≤ count b q) →
    short b actions ≡ false
none_short b actions h =
    none_passes (λ e. nat_lt (count b e) (amount_in Removed actions e)) (named actions) (λ q. le-ltb _ _ (h q))

large_none : (b : ElementBag) (actions : List Action) → Small b → large b actions ≡ false → (q : Element) →
    new_count b actions q < 2 ^ 32
large_none b actions p h q =
    small_number _ (fails_everywhere (λ e. is_large (new_count b actions e)) (named actions) h (λ e out.
    let gone = unnamed Removed actions e out in
    let come = unnamed Added actions e out in
    let small = small_below b e p in
    not_large _ (omega (arith, gone, come, small))) q)

pub none_large : (b : ElementBag) (actions : List Action) → ((q : Element) → new_count b actions q < 2 ^ 32) →
    large b actions ≡ false
none_large b actions h = none_passes (λ e. is_large (new_count b actions e)) (named actions) (λ q. not_large _ (h q))

bool_same : (b c : Bool) → (b ≡ false → c ≡ false) → (c ≡ false → b ≡ false) → b ≡ c
bool_same false c h k = sym (h refl)
bool_same true false h k = k refl
bool_same true true h k = refl

-- two lists on two bags that change the counts alike
record Alike (b : ElementBag) (xs : List Action) (c : ElementBag) (ys : List Action) : Type 0 where
  small_left : Small b
  small_right : Small c
  enough : (q : Element) → amount_in Removed xs q ≤ count b q → amount_in Removed ys q ≤ count c q
  enough_back : (q : Element) → amount_in Removed ys q ≤ count c q → amount_in Removed xs q ≤ count b q
  after_counts : (q : Element) → new_count b xs q ≡ new_count c ys q

tabled_alike : (b : ElementBag) (xs : List Action) (c : ElementBag) (ys : List Action) → Alike b xs c ys →
    tabled b xs ≡ tabled c ys
tabled_alike b xs c ys alike =
    let s : short b xs ≡ short c ys =
    bool_same _ _ (λ h. none_short c ys (λ q. alike.enough q (short_none b xs h q)))
    (λ h. none_short b xs (λ q. alike.enough_back q (short_none c ys h q))) in
    let l : large b xs ≡ large c ys = bool_same _ _
    (λ h. none_large c ys
    (λ q. subst (λ (n : ℕ). n < 2 ^ 32) (alike.after_counts q) (large_none b xs alike.small_left h q)))
    (λ h. none_large b xs
    (λ q. subst (λ (n : ℕ). n < 2 ^ 32) (sym (alike.after_counts q)) (large_none c ys alike.small_right h q))) in
    let r : renewed b xs ≡ renewed c ys =
    same_counts _ _
    (λ q. get-renewed b xs q alike.small_left ∙ ap held (alike.after_counts q)
    ∙ sym (get-renewed c ys q alike.small_right)) in
    λ i. cond (s i) (Err Short) (cond (l i) (Err Large) (Ok (values.Bag (r i))))

after_on_bag : (b : ElementBag) (actions : List Action) → Small b → list_all (is_of Bag) actions ≡ true →
    after bag_meaning (values.Bag b) actions ≡ tabled b actions
after_on_bag b [] p h =
    let s = none_short b [] (λ q. omega arith) in
    let l = none_large b [] (λ q. let small = small_below b q p in omega (arith, small)) in
    let r : renewed b [] ≡ b =
    same_counts _ _
    (λ q. let same : new_count b [] q ≡ count b q = omega arith in get-renewed b [] q p ∙ ap held same
    ∙ sym (small_held b q p)) in
    sym (λ i. cond (s i) (Err Short) (cond (l i) (Err Large) (Ok (values.Bag (r i)))))
after_on_bag b (x ∷ xs) p h = rw h refl

-- what a group gives, by the contents of its list
abbrev by_parts : Value → Option Value → Bool → (Element → ℕ) → (Element → ℕ) → List Element → GroupResult
by_parts old regular bags a r es =
    let base = unwrap_or regular old in
    let renew : Element → ℕ = λ e. (count (counts base) e - r e) + a e in
    cond (not bags) (Err Mixed) (cond (not (is_kind Bag base)) (Err Kind) (cond (is_some regular) (Err Against)
    (cond (list_any (λ e. nat_lt (count (counts base) e) (r e)) es) (Err Short)
    (cond (list_any (λ e. is_large (renew e)) es) (Err Large)
    (Ok (values.Bag (recounted (counts base) renew es)))))))

any_order : (old : Value) (regular : Option Value) (xs ys : List Action) → IsPermutation xs ys →
    bag_result old regular ys ≡ bag_result old regular xs
any_order old regular xs ys p =
    λ i. by_parts old regular (all-IsPermutation (is_of Bag) xs ys p i)
    (λ e. sum_by-IsPermutation (amount Added e) xs ys p i) (λ e. sum_by-IsPermutation (amount Removed e) xs ys p i)
    (named-IsPermutation xs ys p i)

mixed : (old : Value) (regular : Option Value) (partials : List Action) →
    ((f : Family) → owns_bags f ≡ true → list_all (is_of f) partials ≡ false) →
    bag_result old regular partials ≡ Err Mixed
mixed old regular partials h = let none = h Bag refl in rw none refl

-- what follows for a group that has a result
record HadResult (old : Value) (regular : Option Value) (partials : List Action) (w : Value) : Type 0 where
  bags : list_all (is_of Bag) partials ≡ true
  on_bag : is_kind Bag (unwrap_or regular old) ≡ true
  alone : is_some regular ≡ false
  enough : short (counts (unwrap_or regular old)) partials ≡ false
  small : large (counts (unwrap_or regular old)) partials ≡ false
  gave : values.Bag (renewed (counts (unwrap_or regular old)) partials) ≡ w

had_result : (old w : Value) (regular : Option Value) (partials : List Action) →
    bag_result old regular partials ≡ Ok w → HadResult old regular partials w
had_result old w regular partials h =
    let bags = passed _ _ _ _ h in
    let kind = passed _ _ _ _ bags.1 in
    let alone = passed _ _ _ _ kind.1 in
    let enough = passed _ _ _ _ alone.1 in
    let small = passed _ _ _ _ enough.1 in
    record {
      bags = not-false _ bags.0;
      on_bag = not-false _ kind.0;
      alone = alone.0;
      enough = enough.0;
      small = small.0;
      gave = ok_is _ _ small.1;
    }

no_regular : (old v w : Value) (partials : List Action) → bag_result old (Some v) partials ≡ Ok w → w ≡ v
no_regular old v w partials h = let had = (had_result old w (Some v) partials h).alone in cc

all_bags : (v w : Value) (actions : List Action) → after bag_meaning v actions ≡ Ok w →
    list_all (is_of Bag) actions ≡ true
all_bags v w [] h = refl
all_bags v w (x ∷ xs) h = (had_result v w None (x ∷ xs) h).bags

off_bag_empty : (v w : Value) (actions : List Action) → is_kind Bag v ≡ false → after bag_meaning v actions ≡ Ok w →
    (actions ≡ []) × (v ≡ w)
off_bag_empty v w [] off h = (refl, ok_is _ _ h)
off_bag_empty v w (x ∷ xs) off h = let on = (had_result v w None (x ∷ xs) h).on_bag in cc

after_off_bag : (v : Value) (actions : List Action) → is_kind Bag v ≡ false → list_all (is_of Bag) actions ≡ true →
    actions ≢ [] → after bag_meaning v actions ≡ Err Kind
after_off_bag v [] off bags ne = absurd (ne refl)
after_off_bag v (x ∷ xs) off bags ne = rw (bags, off) refl

-- what a list gave on a bag
record Gave (b : ElementBag) (actions : List Action) (w : Value) : Type 0 where
  enough : short b actions ≡ false
  small : large b actions ≡ false
  is : values.Bag (renewed b actions) ≡ w

gave_on_bag : (b : ElementBag) (w : Value) (actions : List Action) → Small b →
    after bag_meaning (values.Bag b) actions ≡ Ok w → Gave b actions w
gave_on_bag b w actions p h =
    let t = sym (after_on_bag b actions p (all_bags (values.Bag b) w actions h)) ∙ h in
    let enough = passed (short b actions) Short _ _ t in
    let small = passed (large b actions) Large _ _ enough.1 in
    record { enough = enough.0; small = small.0; is = ok_is _ _ small.1 }

-- the joined list, and its amounts
abbrev bag_joined : List Action → List Action → List Action
bag_joined first second = bag_actions (joined_amount first second) (named (first ++ second))

none_outside : (side : Side) (first second : List Action) (q : Element) →
    has q (named (first ++ second)) ≡ false → joined_amount first second side q ≡ 0
none_outside side first second q out = at side (none Added) (none Removed) where
  none : (k : Side) → amount_in k first q + amount_in k second q ≡ 0
  none k = sym (sum_by-append (amount k q) first second) ∙ unnamed k (first ++ second) q out

  at : (side : Side) → amount_in Added first q + amount_in Added second q ≡ 0 →
      amount_in Removed first q + amount_in Removed second q ≡ 0 → joined_amount first second side q ≡ 0
  at Added a r = omega (arith, a, r)
  at Removed a r = omega (arith, a, r)

amount-bag_joined : (side : Side) (first second : List Action) (q : Element) →
    amount_in side (bag_joined first second) q ≡ joined_amount first second side q
amount-bag_joined side first second q =
    amount-bag_actions side (joined_amount first second) (first ++ second) q (none_outside side first second q)

joined_bags : (first second : List Action) → list_all (is_of Bag) (bag_joined first second) ≡ true
joined_bags first second = all-bag_actions (joined_amount first second) (named (first ++ second))

enough_for_both : (n r1 a1 r2 : ℕ) → r1 ≤ n → r1 + (r2 - a1) ≤ n → r2 ≤ (n - r1) + a1
enough_for_both n r1 a1 r2 h k = omega arith

enough_for_joined : (n r1 a1 r2 : ℕ) → r1 ≤ n → r2 ≤ (n - r1) + a1 → r1 + (r2 - a1) ≤ n
enough_for_joined n r1 a1 r2 h k = omega arith

counts_of_both : (n r1 a1 r2 a2 : ℕ) → r1 ≤ n → (n - (r1 + (r2 - a1))) + (a2 + (a1 - r2)) ≡ (((n - r1) + a1) - r2) + a2
counts_of_both n r1 a1 r2 a2 h = omega arith

alike : (b : ElementBag) (first second : List Action) → Small b → short b first ≡ false → large b first ≡ false →
    Alike b (bag_joined first second) (renewed b first) second
alike b first second p enough small =
    let there = short_none b first enough in
    let removed = amount-bag_joined Removed first second in
    let added = amount-bag_joined Added first second in
    let between : (q : Element) → count (renewed b first) q ≡ new_count b first q = λ q. count-renewed b first q p in
    record {
      small_left = p;
      small_right = small_renewed b first p (large_none b first p small);
      enough = λ q h. subst (λ (n : ℕ). amount_in Removed second q ≤ n) (sym (between q))
          (enough_for_both (count b q) (amount_in Removed first q) (amount_in Added first q)
          (amount_in Removed second q) (there q) (subst (λ (n : ℕ). n ≤ count b q) (removed q) h));
      enough_back = λ q h. subst (λ (n : ℕ). n ≤ count b q) (sym (removed q))
          (enough_for_joined (count b q) (amount_in Removed first q) (amount_in Added first q)
          (amount_in Removed second q) (there q)
          (subst (λ (n : ℕ). amount_in Removed second q ≤ n) (between q) h));
      after_counts = λ q.
          (λ i. (count b q - removed q i) + added q i)
          ∙ counts_of_both (count b q) (amount_in Removed first q) (amount_in Added first q)
          (amount_in Removed second q) (amount_in Added second q) (there q)
          ∙ ap (λ n. (n - amount_in Removed second q) + amount_in Added second q) (sym (between q));
    }

on_bag : (b : ElementBag) (w : Value) (first second : List Action) → Small b → list_all (is_of Bag) second ≡ true →
    after bag_meaning (values.Bag b) first ≡ Ok w →
    after bag_meaning (values.Bag b) (bag_joined first second) ≡ after bag_meaning w second
on_bag b w first second p bags h =
    let gave = gave_on_bag b w first p h in
    let both = alike b first second p gave.enough gave.small in
    after_on_bag b (bag_joined first second) p (joined_bags first second)
    ∙ tabled_alike b (bag_joined first second) (renewed b first) second both
    ∙ sym (ap (λ u. after bag_meaning u second) (sym gave.is)
    ∙ after_on_bag (renewed b first) second both.small_right bags)

-- an element of which a list has an amount on a side
record HasAmount (actions : List Action) : Type 0 where
  side : Side
  element : Element
  some : 0 < amount_in side actions element

first_amount : (side : Side) (x : Element) (n : ℕ) (xs : List Action) → 1 ≤ n →
    0 < amount_in side (bag_action side x n ∷ xs) x
first_amount side x n xs least =
    let sum = summed (amount side x) (bag_action side x n) xs in
    let of_one : amount side x (bag_action side x n) ≡ n =
    amount-bag_action side x x n ∙ ap (λ t. cond t n 0) (itself element_cmp_total x) in
    omega (arith, least, sum, of_one)

has_amount : (actions : List Action) → AllProper actions → list_all (is_of Bag) actions ≡ true → actions ≢ [] →
    HasAmount actions
has_amount [] proper bags ne = absurd (ne refl)
has_amount (BagAdd x n ∷ xs) proper bags ne =
    record { side = Added; element = x; some = first_amount Added x n xs (All-head IsProper (BagAdd x n) xs proper).1 }
has_amount (BagRemove x n ∷ xs) proper bags ne = record {
  side = Removed;
  element = x;
  some = first_amount Removed x n xs (All-head IsProper (BagRemove x n) xs proper).1;
}
has_amount (x ∷ xs) proper bags ne = cc

joined_from_none : (side : Side) (second : List Action) (q : Element) →
    joined_amount [] second side q ≡ amount_in side second q
joined_from_none Added second q = omega arith
joined_from_none Removed second q = omega arith

-- a list that isn't empty joins, after nothing, to one that isn't empty
some_remain : (second : List Action) → AllProper second → list_all (is_of Bag) second ≡ true → second ≢ [] →
    bag_joined [] second ≢ []
some_remain second proper bags ne is =
    let has = has_amount second proper bags ne in
    let some = has.some in
    let none : 0 ≡ amount_in has.side second has.element =
    sym (ap (λ l. amount_in has.side l has.element) is) ∙ amount-bag_joined has.side [] second has.element
    ∙ joined_from_none has.side second has.element in
    absurd (omega (arith, some, none))

off_bag : (v w : Value) (first second : List Action) → is_kind Bag v ≡ false → AllProper second →
    list_all (is_of Bag) second ≡ true → first ++ second ≢ [] → after bag_meaning v first ≡ Ok w →
    after bag_meaning v (bag_joined first second) ≡ after bag_meaning w second
off_bag v w first second off proper bags ne h =
    let start = off_bag_empty v w first off h in
    let some : second ≢ [] = λ none. ne (ap (λ xs. xs ++ second) start.0 ∙ none) in
    let some_joined : bag_joined first second ≢ [] =
    subst (λ (l : List Action). bag_joined l second ≢ []) (sym start.0) (some_remain second proper bags some) in
    after_off_bag v (bag_joined first second) off (joined_bags first second) some_joined
    ∙ sym (ap (λ u. after bag_meaning u second) (sym start.1) ∙ after_off_bag v second off bags some)

in_sequence : (v w : Value) (first second : List Action) → value.IsProper v → AllProper second →
    list_all (is_of Bag) second ≡ true → first ++ second ≢ [] → after bag_meaning v first ≡ Ok w →
    after bag_meaning v (bag_joined first second) ≡ after bag_meaning w second
in_sequence (values.Bag b) w first second pv proper bags ne h = on_bag b w first second (small_bag b pv.1) bags h
in_sequence v w first second pv proper bags ne h = off_bag v w first second refl proper bags ne h

-- what follows for two lists that have a join
record HadJoin (first second list : List Action) : Type 0 where
  bags_first : list_all (is_of Bag) first ≡ true
  bags_second : list_all (is_of Bag) second ≡ true
  gave : bag_joined first second ≡ list

had_join : (first second list : List Action) → bag_joins first second ≡ Ok list → HadJoin first second list
had_join first second list h =
    let first_bags = passed _ _ _ _ h in
    let second_bags = passed _ _ _ _ first_bags.1 in
    let small = passed _ _ _ _ second_bags.1 in
    record {
      bags_first = not-false _ first_bags.0;
      bags_second = not-false _ second_bags.0;
      gave = ok_is _ _ small.1;
    }

join_is_sequence : (v w : Value) (first second list : List Action) →
    value.IsProper v → AllProper first → AllProper second → first ++ second ≢ [] →
    bag_joins first second ≡ Ok list → after bag_meaning v first ≡ Ok w →
    after bag_meaning v list ≡ after bag_meaning w second
join_is_sequence v w first second list pv p1 p2 ne join h =
    let had = had_join first second list join in
    ap (after bag_meaning v) (sym had.gave) ∙ in_sequence v w first second pv p2 had.bags_second ne h

amounts_small : (n r1 a1 r2 a2 : ℕ) → n < 2 ^ 32 → r1 ≤ n → r2 ≤ (n - r1) + a1 →
    (((n - r1) + a1) - r2) + a2 < 2 ^ 32 → (a2 + (a1 - r2) < 2 ^ 32) × (r1 + (r2 - a1) < 2 ^ 32)
amounts_small n r1 a1 r2 a2 h k l m = (omega arith, omega arith)

-- what is added and removed of each element is an amount that an action can have
abbrev AreSmall : List Action → List Action → Type 0
AreSmall first second = (q : Element) →
    (joined_amount first second Added q < 2 ^ 32) × (joined_amount first second Removed q < 2 ^ 32)

-- two lists that have results one after the other have a join
small_on_bag : (b : ElementBag) (w x : Value) (first second : List Action) → Small b →
    after bag_meaning (values.Bag b) first ≡ Ok w → after bag_meaning w second ≡ Ok x → AreSmall first second
small_on_bag b w x first second p h k q =
    let one = gave_on_bag b w first p h in
    let small_between = small_renewed b first p (large_none b first p one.small) in
    let two = gave_on_bag (renewed b first) x second small_between (ap (λ u. after bag_meaning u second) one.is ∙ k) in
    let between = count-renewed b first q p in
    amounts_small (count b q) (amount_in Removed first q) (amount_in Added first q) (amount_in Removed second q)
    (amount_in Added second q) (small_below b q p) (short_none b first one.enough q)
    (subst (λ (n : ℕ). amount_in Removed second q ≤ n) between (short_none (renewed b first) second two.enough q))
    (subst (λ (n : ℕ). (n - amount_in Removed second q) + amount_in Added second q < 2 ^ 32) between
    (large_none (renewed b first) second small_between two.small q))

not_off_bag : (v w x : Value) (first second : List Action) → is_kind Bag v ≡ false → first ++ second ≢ [] →
    after bag_meaning v first ≡ Ok w → after bag_meaning w second ≡ Ok x → ⊥
not_off_bag v w x first second off ne h k =
    let start = off_bag_empty v w first off h in
    let then = off_bag_empty w x second (ap (is_kind Bag) (sym start.1) ∙ off) k in
    ne (ap (λ xs. xs ++ second) start.0 ∙ then.0)

amounts_fit : (v w x : Value) (first second : List Action) → value.IsProper v → first ++ second ≢ [] →
    after bag_meaning v first ≡ Ok w → after bag_meaning w second ≡ Ok x → AreSmall first second
amounts_fit (values.Bag b) w x first second p ne h k q = small_on_bag b w x first second (small_bag b p.1) h k q
amounts_fit v w x first second p ne h k q = absurd (not_off_bag v w x first second refl ne h k)

refused_join : (v w x : Value) (first second : List Action) (refusal : NoJoin) →
    value.IsProper v → AllProper first → AllProper second → first ++ second ≢ [] →
    bag_joins first second ≡ Err refusal → after bag_meaning v first ≡ Ok w → after bag_meaning w second ≢ Ok x
refused_join v w x first second refusal pv p1 p2 ne join h k =
    let bags1 = all_bags v w first h in
    let bags2 = all_bags w x second k in
    let fit = amounts_fit v w x first second pv ne h k in
    let small : list_any (is_either_large (joined_amount first second)) (named (first ++ second)) ≡ false =
    none_passes _ (named (first ++ second)) (λ q. λ i. not_large (joined_amount first second Added q) (fit q).0 i
    || not_large (joined_amount first second Removed q) (fit q).1 i) in
    let had = rw (bags1, bags2, small) at join in
    cc

kind_kept : (f : Family) (old w : Value) (regular : Option Value) (partials : List Action) → partials ≢ [] →
    list_all (is_of f) partials ≡ true → bag_result old regular partials ≡ Ok w →
    (kind_of (unwrap_or regular old) ≡ Some f) × (kind_of w ≡ Some f)
kind_kept f old w regular partials ne all h =
    let had = had_result old w regular partials h in
    let same : Bag ≡ f = all_of_one Bag f partials ne had.bags all in
    (kind_is Bag _ had.on_bag ∙ ap Some same, ap kind_of (sym had.gave) ∙ ap Some same)

proper_kept : (old w : Value) (partials : List Action) → value.IsProper old → AllProper partials →
    bag_result old None partials ≡ Ok w → value.IsProper w
proper_kept (values.Bag b) w partials po pp h =
    let had = had_result (values.Bag b) w None partials h in
    let small = small_bag b po.1 in
    subst value.IsProper had.gave (
      renewed_elements b partials po.0 pp,
      bag_small (renewed b partials) (small_renewed b partials small (large_none b partials small had.small)),
    )
proper_kept old w partials po pp h = let on = (had_result old w None partials h).on_bag in cc

join_all : (first second list : List Action) → bag_joins first second ≡ Ok list → list_all (is_of Bag) list ≡ true
join_all first second list h =
    ap (list_all (is_of Bag)) (sym (had_join first second list h).gave) ∙ joined_bags first second

no_names : bag_joined [] [] ≡ []
no_names = ap (bag_actions (joined_amount [] [])) elements-empty

join_family : (f : Family) (first second list : List Action) → bag_joins first second ≡ Ok list →
    list_any (is_of f) list ≡ true → list_any (is_of f) (first ++ second) ≡ true
join_family f first second list join h =
    let had = had_join first second list join in
    joined_family Bag f first second list (record {
      one = had.bags_first;
      two = had.bags_second;
      both = join_all first second list join;
    })
    (λ none. let parts = nil_parts first second none in
    sym had.gave ∙ (λ i. bag_joined (parts.0 i) (parts.1 i)) ∙ no_names) h

pub bag_laws : AggregatorLaws bag_meaning
bag_laws = record {
  any_order = any_order;
  mixed = mixed;
  join_is_sequence = join_is_sequence;
  refused_join = refused_join;
  regular_result = no_regular;
  regular_decides = λ old other v partials. refl;
  kind_kept = kind_kept;
  proper_kept = proper_kept;
  join_is_partial = λ first second list h. all_partial Bag list (join_all first second list h);
  join_family = join_family;
}
