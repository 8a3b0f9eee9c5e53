-- Sets and bags to which one more partial update is joined, as lists that compose, and what pairs of aggregators know of that.
use Rattle.std.proofs.Common.{◌≡◌, ◌≢◌, true, false, cond, List, [], ◌∷◌, refl, ap, ◌∙◌, ℕ, ◌+◌, ◌-◌, ◌<◌, ◌^◌, ◌&&◌, length, Ok, Err, sym, subst, arith, Bool, not, ◌||◌, ◌++◌}
use Rattle.std.specs.Prelude.{None, Ok, Err, filter, Result, Option, Some, is_some, IfOk, OnErr}
use Rattle.std.specs.List.{list_all, filter_map}
use Rattle.asm_element.specs.Tests.{both}
use Rattle.asm_update.specs.Action.{is_partial, regular_value, is_of, AllProper, IsProper}
use Rattle.asm_update.specs.Aggregator.{Meaning, Joined, Refused}
use Rattle.asm_update.specs.Fire.{Part, first, group_result, res}
use Rattle.asm_update.specs.Move.{are_different}
use Rattle.asm_element.specs.declared.value.Value.{Value}
use Rattle.asm_update.specs.declared.action.Action.{Action}
use Rattle.asm_update.specs.declared.clash.Cause.TheVariants.{Two, Mixed, Kind, Both}
use Rattle.asm_update.proofs.ActionLemmas.{partial_none}
use Rattle.asm_aggregate.specs.Bundle.{Bundle, bundle_of}
use Rattle.asm_aggregate.specs.Compose.{alone_clash, composed, as_regular}
use Rattle.asm_aggregate.specs.PairMeaning.{refused, unless, by_owner, cause_by_owner, pair_joins, pair_meaning}
use Rattle.std.proofs.lemmas.List.Elements.{All-cons, All-nil}
use Rattle.std.specs.declared.alloc.AllocError.{AllocError}
use Rattle.asm_element.specs.Bag.{ElementBag, count, lowered_to, raised_to}
use Rattle.asm_element.specs.Set.{ElementSet, insert, remove, len}
use Rattle.asm_element.specs.declared.element.Element.{Element}
use Rattle.asm_update.specs.declared.action.Action.TheVariants.{Regular, BagAdd, BagRemove}
use Rattle.asm_update.specs.declared.action.Family.TheVariants.{Set, Bag}
use Rattle.asm_aggregate.specs.BagMeaning.{bag_joins}
use Rattle.asm_aggregate.specs.SetMeaning.{set_joins, adds_and_removes, joined_elements, set_actions}
use Rattle.asm_aggregate.specs.Sets.{meets}
use Rattle.asm_aggregate.specs.laws.BagAlgebra.{Small, small_bag, small_below}
use Rattle.asm_aggregate.specs.laws.FamilyLemmas.{all_partial, all_of_both, common_is, nil_parts}
use Rattle.asm_step.specs.Front.{joined_to, Applied, IsApplied, IsChanged, IsExchanged, IsLonger, bag_list, set_list, set_update, Joins, IsKnown}
use Rattle.asm_step.specs.Outcomes.{acts}
use Rattle.asm_step.specs.declared.front.Growth.{Growth}
use Rattle.asm_step.proofs.BagCounts.{lowered_none, small-lowered, small-raised}
use Rattle.asm_step.proofs.BagJoins.{bags_added, bags_fair, bags_removed}
use Rattle.asm_step.proofs.BagLists.{bag_length, list_of_bags, proper_bags}
use Rattle.asm_step.proofs.SetLists.{acting, joins_added, joins_nothing, joins_removed, list_length, list_of_sets, one_of_sets, still_apart, two, adds_nothing}
use Rattle.asm_update.specs.declared.action.Family.{Family}
use Rattle.asm_update.specs.declared.clash.Cause.{Cause}
use Rattle.asm_aggregate.specs.Families.{common_family}
use Rattle.asm_aggregate.specs.Table.{first_cause}
use Rattle.asm_step.specs.declared.in_place.Known.{Known}
use Rattle.asm_step.specs.declared.in_place.Known.TheVariants.{Own, Other, Unknown}
use Rattle.std.specs.FinMap as finite
use Rattle.asm_element.specs.Bag as bag
use Rattle.asm_element.specs.Value as value

no_values : (xs : List Action) → list_all is_partial xs ≡ true → filter_map regular_value xs ≡ []
no_values [] h = refl
no_values (x ∷ xs) h =
    let parts = both (is_partial x) (list_all is_partial xs) h in rw (partial_none x parts.0) (no_values xs parts.1)

all_stay : (xs : List Action) → list_all is_partial xs ≡ true → filter is_partial xs ≡ xs
all_stay [] h = refl
all_stay (x ∷ xs) h =
    let parts = both (is_partial x) (list_all is_partial xs) h in
    let this : is_partial x ≡ true = parts.0 in rw this (ap (λ l. x ∷ l) (all_stay xs parts.1))

-- partial updates and no regular value
abbrev pub partials_alone : List Action → Bundle
partials_alone xs = record { regular = None; differ = false; partials = xs }

pub bundle_alone : (xs : List Action) → list_all is_partial xs ≡ true → bundle_of xs ≡ partials_alone xs
bundle_alone xs h =
    λ i. record { regular = first (no_values xs h i); differ = are_different (no_values xs h i); partials = all_stay xs h i }

-- what they give on a value
pub res_partial : (part : Part) (v : Value) (xs : List Action) → list_all is_partial xs ≡ true → res part v xs ≡ part v None xs
res_partial part v xs h =
    λ i. cond (are_different (no_values xs h i)) (Err Two) (group_result part v (first (no_values xs h i)) (all_stay xs h i))

-- they compose to what they join to, where the first of them have a join with nothing
pub composed_alone : (a : Meaning) (xs ys zs : List Action) → list_all is_partial xs ≡ true → list_all is_partial ys ≡ true →
    xs ≢ [] → refused (a.joins xs []) ≡ None → a.joins xs ys ≡ Ok zs → composed a (bundle_of xs) (bundle_of ys) ≡ Ok zs
composed_alone a xs ys zs h k ne fair joins =
    (λ i. composed a (bundle_alone xs h i) (bundle_alone ys k i)) ∙ by_list xs ne fair ∙ joins where
      by_list : (us : List Action) → us ≢ [] → refused (a.joins us []) ≡ None →
          unless (alone_clash a us) (a.joins xs ys) ≡ a.joins xs ys
      by_list [] ne fair = absurd (ne refl)
      by_list (u ∷ us) ne fair = ap (λ o. unless o (a.joins xs ys)) fair

-- the update that comes behind some actions
pub as_joined : (a : Meaning) (xs : List Action) (x : Action) → acts xs ≡ true →
    joined_to a xs x ≡ composed a (bundle_of xs) (bundle_of (x ∷ []))
as_joined a [] x some = cc
as_joined a (y ∷ ys) x some = refl

pub none_act : (xs : List Action) → acts xs ≡ false → xs ≡ []
none_act [] none = refl
none_act (x ∷ xs) none = cc

-- the first update
pub begun : (a : Meaning) (x : Action) (v w : Value) (xs ys : List Action) (grown : Growth) → xs ≡ [] →
    a.part v None (x ∷ []) ≡ Ok w → ys ≡ x ∷ [] → grown.more ≡ 1 → grown.less ≡ 0 → Applied a x v xs w ys grown
begun a x v w xs ys grown none changed one more less = record {
  value = changed;
  joined = ap (λ (zs : List Action). joined_to a zs x) none ∙ ap (λ zs. Ok zs) (sym one);
  longer = let old = ap length none in let new = ap length one in omega (arith, old, new, more, less);
  few = omega (arith, more);
  proper = subst AllProper (sym none) (All-nil IsProper);
}

abbrev Answer : Type 0
Answer = Result (Option Growth) AllocError

-- the sets have nothing in common
pub exchanged_apart : (r : Answer) (s t n m : ElementSet) (e : Element) → IfOk r (IsExchanged s n (insert s e)) →
    IfOk r (IsExchanged t m (remove t e)) → OnErr r (n ≡ s) → OnErr r (m ≡ t) → meets s t ≡ false → meets n m ≡ false
exchanged_apart (Ok (Some grown)) s t n m e to from _ _ h = two meets to from ∙ still_apart s t e h
exchanged_apart (Ok None) s t n m e to from _ _ h = two meets to from ∙ h
exchanged_apart (Err error) s t n m e _ _ to from h = two meets to from ∙ h

module _ (a : Meaning) (joins : Joins a Set set_joins) (x : Action) (partial : is_partial x ≡ true) (v w : Value)
    (p q n m : ElementSet) (some : acts (set_list p q) ≡ true) (apart : meets p q ≡ false) (proper : AllProper (set_list p q)) where
  -- the list with one more
  composed_set : (adds : _) (e : Element) (zs : List Action) → x ≡ set_update adds e →
      set_joins (set_list p q) (set_update adds e ∷ []) ≡ Ok zs →
      composed a (bundle_of (set_list p q)) (bundle_of (x ∷ [])) ≡ Ok zs
  composed_set adds e zs is h =
      let ne = acting (set_list p q) some in
      let sets = list_of_sets p q in
      let one : list_all (is_of Set) (x ∷ []) ≡ true = ap (λ (y : Action). list_all (is_of Set) (y ∷ [])) is ∙ one_of_sets adds e in
      composed_alone a (set_list p q) (x ∷ []) zs (all_partial Set (set_list p q) sets) (all_partial Set (x ∷ []) one) ne
      (ap refused (joins.same (set_list p q) [] ne sets refl) ∙ joins_nothing p q apart)
      (joins.same (set_list p q) (x ∷ []) ne sets one
      ∙ ap (λ (y : Action). set_joins (set_list p q) (y ∷ [])) is ∙ h)

  pub added_ok : (e : Element) (r : Answer) → x ≡ set_update true e →
      IfOk r (IsExchanged p n (insert p e)) → IfOk r (IsExchanged q m (remove q e)) →
      IfOk r (λ grown. IsChanged a x v w (is_some grown)) → IfOk r (IsLonger (len p + len q) (len n + len m)) →
      IfOk r (IsApplied a x v (set_list p q) w (set_list n m))
  added_ok e (Ok (Some grown)) is to from changed longer = record {
    value = changed;
    joined = as_joined a (set_list p q) x some ∙ composed_set true e (set_list n m) is (joins_added p q e apart ∙ ap (λ xs. Ok xs) (two set_list (sym to) (sym from)));
    longer = ap (λ k. k + grown.less) (list_length n m) ∙ longer.0 ∙ ap (λ k. k + grown.more) (sym (list_length p q));
    few = longer.1;
    proper = proper;
  }
  added_ok e (Ok None) is to from changed longer = (changed, two set_list to from)
  added_ok e (Err error) is to from changed longer = tt

  pub removed_ok : (e : Element) (r : Answer) → x ≡ set_update false e →
      IfOk r (IsExchanged q m (insert q e)) → IfOk r (IsExchanged p n (remove p e)) →
      IfOk r (λ grown. IsChanged a x v w (is_some grown)) → IfOk r (IsLonger (len q + len p) (len m + len n)) →
      IfOk r (IsApplied a x v (set_list p q) w (set_list n m))
  removed_ok e (Ok (Some grown)) is to from changed longer =
      let long = longer.0 in
      let new = list_length n m in
      let old = list_length p q in record {
        value = changed;
        joined = as_joined a (set_list p q) x some ∙ composed_set false e (set_list n m) is (joins_removed p q e apart ∙ ap (λ xs. Ok xs) (two set_list (sym from) (sym to)));
        longer = omega (arith, long, new, old);
        few = longer.1;
        proper = proper;
      }
  removed_ok e (Ok None) is to from changed longer = (changed, two set_list from to)
  removed_ok e (Err error) is to from changed longer = tt

module _ (a : Meaning) (joins : Joins a Bag bag_joins) (x : Action) (bags : is_of Bag x ≡ true) (v w : Value)
    (p q n m : ElementBag) (some : acts (bag_list p q) ≡ true) (one : bag.IsProper p) (other : bag.IsProper q) where
  -- bags that take what is joined, once the list is known
  bags_ok : (r : Answer) (up down : ElementBag) → Small up → Small down → IfOk r (IsExchanged p n up) → IfOk r (IsExchanged q m down) →
      IfOk r (λ grown. IsChanged a x v w (is_some grown)) → IfOk r (IsLonger (finite.len p + finite.len q) (finite.len n + finite.len m)) →
      bag_joins (bag_list p q) (x ∷ []) ≡ Ok (bag_list up down) → IfOk r (IsApplied a x v (bag_list p q) w (bag_list n m))
  bags_ok (Ok (Some grown)) up down fits fit to from changed longer gives =
      let long = longer.0 in
      let old = bag_length p q (small_bag p one.1) (small_bag q other.1) in
      let new = bag_length up down fits fit in
      let same : bag_list n m ≡ bag_list up down = two bag_list to from in
      let now = ap length same in
      let lens : finite.len n + finite.len m ≡ finite.len up + finite.len down = two (λ k l. finite.len k + finite.len l) to from in
      let ne = acting (bag_list p q) some in
      let all = list_of_bags p q in
      let single : list_all (is_of Bag) (x ∷ []) ≡ true = ap (λ b. b && true) bags in record {
        value = changed;
        joined =
            as_joined a (bag_list p q) x some
            ∙ composed_alone a (bag_list p q) (x ∷ []) (bag_list n m) (all_partial Bag (bag_list p q) all)
            (all_partial Bag (x ∷ []) single) ne
            (ap refused (joins.same (bag_list p q) [] ne all refl) ∙ bags_fair (bag_list p q) all)
            (joins.same (bag_list p q) (x ∷ []) ne all single ∙ gives ∙ ap (λ xs. Ok xs) (sym same));
        longer = omega (arith, long, old, new, now, lens);
        few = longer.1;
        proper = proper_bags p q one other;
      }
  bags_ok (Ok None) up down fits fit to from changed longer gives = (changed, two bag_list to from)
  bags_ok (Err error) up down fits fit to from changed longer gives = tt

  pub bag_added_ok : (r : Answer) (e : Element) (k up down : ℕ) → x ≡ BagAdd e k → up ≡ count p e + k → down ≡ count q e →
      up < 2 ^ 32 → IfOk r (IsExchanged p n (raised_to p e up)) → IfOk r (IsExchanged q m (lowered_to q e down)) →
      IfOk r (λ grown. IsChanged a x v w (is_some grown)) → IfOk r (IsLonger (finite.len p + finite.len q) (finite.len n + finite.len m)) →
      IfOk r (IsApplied a x v (bag_list p q) w (bag_list n m))
  bag_added_ok r e k up down is sum stays fits to from changed longer =
      let small = small_bag p one.1 in
      let kept = lowered_none q e down (small_bag q other.1) stays in
      bags_ok r (raised_to p e up) q (small-raised p e up small fits) (small_bag q other.1) to
      (subst (λ (b : ElementBag). IfOk r (IsExchanged q m b)) kept from) changed longer
      (ap (λ (y : Action). bag_joins (bag_list p q) (y ∷ [])) is ∙ bags_added p q e k up small (small_bag q other.1) sum fits)

  pub bag_removed_ok : (r : Answer) (e : Element) (k up down : ℕ) → x ≡ BagRemove e k → down ≡ count p e - k →
      up ≡ count q e + (k - count p e) → up < 2 ^ 32 → IfOk r (IsExchanged q m (raised_to q e up)) →
      IfOk r (IsExchanged p n (lowered_to p e down)) → IfOk r (λ grown. IsChanged a x v w (is_some grown)) →
      IfOk r (IsLonger (finite.len q + finite.len p) (finite.len m + finite.len n)) →
      IfOk r (IsApplied a x v (bag_list p q) w (bag_list n m))
  bag_removed_ok r e k up down is left sum fits to from changed longer =
      let small = small_bag p one.1 in
      let large = small_bag q other.1 in
      let most = small_below p e small in
      bags_ok r (lowered_to p e down) (raised_to q e up) (small-lowered p e down small (omega (arith, left, most)))
      (small-raised q e up large fits) from to changed (turned r longer)
      (ap (λ (y : Action). bag_joins (bag_list p q) (y ∷ [])) is ∙ bags_removed p q e k up down small large left sum fits) where
        turned : (r : Answer) → IfOk r (IsLonger (finite.len q + finite.len p) (finite.len m + finite.len n)) →
            IfOk r (IsLonger (finite.len p + finite.len q) (finite.len n + finite.len m))
        turned (Ok (Some grown)) h = let long = h.0 in (omega (arith, long), h.1)
        turned (Ok None) h = tt
        turned (Err error) h = tt

-- a put with the value changed
pub put_ok : (a : Meaning) (x : Action) (v w : Value) (grown : Growth) → is_partial x ≡ true → value.IsProper v →
    a.part v None (x ∷ []) ≡ Ok w → grown.more ≡ 0 → grown.less ≡ 0 →
    Applied a x v (Regular v ∷ []) w (Regular w ∷ []) grown
put_ok a x v w grown partial proper changed more less = record {
  value = changed;
  joined = ap (λ b. composed a (bundle_of (Regular v ∷ [])) b) (bundle_alone (x ∷ []) (ap (λ b. b && true) partial))
      ∙ ap as_regular changed;
  longer = omega (arith, more, less);
  few = omega (arith, more);
  proper = All-cons IsProper (Regular v) [] proper (All-nil IsProper);
}

-- why a list of sets is refused with nothing after it
alone : (xs : List Action) → list_all (is_of Set) xs ≡ true →
    refused (set_joins xs []) ≡ cond (adds_and_removes xs) (Some Both) None
alone xs h =
    ap refused (λ i. first_cause
    ((not (h i), Refused Mixed) ∷ (adds_and_removes xs, Refused Both) ∷ (false, Refused Mixed) ∷ (adds_nothing i, Refused Both) ∷ [])
    (set_actions (joined_elements xs [])))
    ∙ by_test (adds_and_removes xs) where
      by_test : (b : Bool) →
          refused (first_cause ((false, Refused Mixed) ∷ (b, Refused Both) ∷ (false, Refused Mixed) ∷ (false, Refused Both) ∷ [])
          (set_actions (joined_elements xs [])))
          ≡ cond b (Some Both) None
      by_test true = refl
      by_test false = refl

-- two lists of sets
both_joined : (xs ys : List Action) → list_all (is_of Set) xs ≡ true → list_all (is_of Set) ys ≡ true →
    set_joins xs ys
    ≡ cond (adds_and_removes xs) (Err (Refused Both))
    (cond (adds_and_removes ys) (Err (Refused Both)) (Ok (set_actions (joined_elements xs ys))))
both_joined xs ys h k =
    λ i. first_cause
    ((not (h i), Refused Mixed) ∷ (adds_and_removes xs, Refused Both) ∷ (not (k i), Refused Mixed) ∷ (adds_and_removes ys, Refused Both) ∷ [])
    (set_actions (joined_elements xs ys))

-- what refuses one of them refuses both
tables : (xs ys : List Action) → list_all (is_of Set) xs ≡ true → list_all (is_of Set) ys ≡ true →
    unless (cond (adds_and_removes xs) (Some Both) None) (unless (cond (adds_and_removes ys) (Some Both) None) (set_joins xs ys))
    ≡ set_joins xs ys
tables xs ys h k =
    ap (λ (j : Joined). unless (cond (adds_and_removes xs) (Some Both) None) (unless (cond (adds_and_removes ys) (Some Both) None) j))
    (both_joined xs ys h k)
    ∙ by_tests (adds_and_removes xs) (adds_and_removes ys) (Ok (set_actions (joined_elements xs ys))) ∙ sym (both_joined xs ys h k) where
      by_tests : (b c : Bool) (j : Joined) →
          unless (cond b (Some Both) None) (unless (cond c (Some Both) None) (cond b (Err (Refused Both)) (cond c (Err (Refused Both)) j)))
          ≡ cond b (Err (Refused Both)) (cond c (Err (Refused Both)) j)
      by_tests true c j = refl
      by_tests false true j = refl
      by_tests false false j = refl

-- a way to join partial updates of a family, of which each list is refused for its own cause
pub record Judged (f : Family) (joins : List Action → List Action → Joined) : Type 0 where
  pub cause : List Action → Option Cause
  pub nothing : cause [] ≡ None
  pub alone : (xs : List Action) → list_all (is_of f) xs ≡ true → refused (joins xs []) ≡ cause xs
  pub first : (xs ys : List Action) → list_all (is_of f) xs ≡ true → list_all (is_of f) ys ≡ true →
      unless (cause xs) (unless (cause ys) (joins xs ys)) ≡ joins xs ys

pub sets_judged : Judged Set set_joins
sets_judged = record {
  cause = λ xs. cond (adds_and_removes xs) (Some Both) None;
  nothing = ap (λ t. cond t (Some Both) None) adds_nothing;
  alone = alone;
  first = tables;
}

pub bags_judged : Judged Bag bag_joins
bags_judged = record { cause = λ xs. None; nothing = refl; alone = bags_fair; first = λ xs ys h k. refl }

module _ {f : Family} {J : List Action → List Action → Joined} (judged : Judged f J) (a b : Meaning) where
  -- the owner of a list of the family
  owner : {T : Type 0} (k : Meaning) (one other last here : T) →
      by_owner a b (Some f) one other last ≡ here → (xs : List Action) → xs ≢ [] → list_all (is_of f) xs ≡ true →
      by_owner a b (common_family xs) one other last ≡ here
  owner k one other last here is xs ne h = ap (λ o. by_owner a b o one other last) (common_is f xs ne h) ∙ is

  module _ (k : Meaning) (joins : Joins k f J)
      (chosen : (T : Type 0) (g : Meaning → T) (last : T) → by_owner a b (Some f) (g a) (g b) last ≡ g k) where
    cause : (xs : List Action) → list_all (is_of f) xs ≡ true → cause_by_owner a b xs ≡ judged.cause xs
    cause [] h = sym judged.nothing
    cause (x ∷ xs) h =
        let ne : x ∷ xs ≢ [] = λ e. cc in
        owner k (refused (a.joins (x ∷ xs) [])) (refused (b.joins (x ∷ xs) [])) (Some Mixed) (refused (k.joins (x ∷ xs) []))
        (chosen (Option Cause) (λ (m : Meaning). refused (m.joins (x ∷ xs) [])) (Some Mixed)) (x ∷ xs) ne h
        ∙ ap refused (joins.same (x ∷ xs) [] ne h refl) ∙ judged.alone (x ∷ xs) h

    pub same_pair : (xs ys : List Action) → xs ≢ [] → list_all (is_of f) xs ≡ true → list_all (is_of f) ys ≡ true →
        pair_joins a b xs ys ≡ J xs ys
    same_pair xs ys ne h m =
        (λ i. unless (cause xs h i) (unless (cause ys m i)
        ((owner k (a.joins xs ys) (b.joins xs ys) (Err (Refused Kind)) (k.joins xs ys)
        (chosen Joined (λ (n : Meaning). n.joins xs ys) (Err (Refused Kind))) (xs ++ ys) (λ e. ne (nil_parts xs ys e).0) (all_of_both (is_of f) xs ys h m)
        ∙ joins.same xs ys ne h m) i)))
        ∙ judged.first xs ys h m

  -- the first of the two owns the family
  pub known_first : Joins a f J → IsKnown (pair_meaning a b) f J Own
  known_first joins = record {
    owns = ap (λ t. t || b.owns f) joins.owns;
    same = same_pair a joins (λ T g last. ap (λ t. cond t (g a) (cond (b.owns f) (g b) last)) joins.owns);
  }

  -- or the second
  pub known_second : (n : Known) → a.owns f ≡ false → IsKnown b f J n → IsKnown (pair_meaning a b) f J n
  known_second Own other joins = record {
    owns = (λ i. other i || joins.owns i);
    same = same_pair b joins (λ T g last. (λ i. cond (other i) (g a) (cond (joins.owns i) (g b) last)));
  }
  known_second Other other is = λ i. other i || is i
  known_second Unknown other is = tt
