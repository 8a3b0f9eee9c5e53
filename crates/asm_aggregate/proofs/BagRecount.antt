-- Counts that are moved towards those of another bag, and groups that are judged by the counts of what they name.
use Rattle.std.proofs.Common.{◌≡◌, ℕ, zero, suc, ◌+◌, ◌-◌, ◌<◌, ◌≤◌, ◌^◌, Bool, true, false, cond, ◌||◌, List, [], ◌∷◌, length, take}
use Rattle.std.proofs.Common.{refl, sym, ap, subst, ◌∙◌, arith}
use Rattle.std.specs.Prelude.{Option, Some, Ok, Err, unwrap_or, nat_lt, All}
use Rattle.std.specs.List.{list_any}
use Rattle.std.specs.FinMap as finite
use Rattle.std.specs.Ordering.{eq_by_cmp}
use Rattle.std.proofs.lemmas.List.{take_all}
use Rattle.std.proofs.lemmas.Bool.{lt-ltb, ltb-true, ltb-false}
use Rattle.asm_element.proofs.BagTree.{count-set_count, raised_to-below, raised_to-kept, lowered_to-above, lowered_to-kept}
use Rattle.asm_element.specs.Element.{element_cmp}
use Rattle.asm_element.specs.declared.element.Element.{Element}
use Rattle.asm_element.specs.declared.value.Value.TheVariants as values
use Rattle.asm_element.specs.Bag.{ElementBag, empty, count, counts, set_count, raised_to, lowered_to, IsCount}
use Rattle.asm_update.specs.Aggregator.{IsOutcome}
use Rattle.asm_update.specs.declared.action.Action.{Action}
use Rattle.asm_update.specs.declared.clash.Cause.TheVariants.{Short, Large}
use Rattle.asm_update.specs.declared.error.ResultError.{ResultError}
use Rattle.asm_aggregate.specs.Sets.{is_the}
use Rattle.asm_aggregate.specs.Steps.{names, names_in, raised, lowered, IsMoved, IsMoreBy, IsShort, IsAbove}
use Rattle.asm_aggregate.specs.BagMeaning.{amount_in, element_of, named, is_large, new_count, recounted}
use Rattle.asm_aggregate.specs.BagMeaning.{renewed, short, large, tabled}
use Rattle.asm_aggregate.specs.declared.side.Side.{Side}
use Rattle.asm_aggregate.specs.declared.side.Side.TheVariants.{Added, Removed}
use Rattle.asm_aggregate.specs.laws.SetAlgebra.{same_element}
use Rattle.asm_aggregate.specs.laws.BagAlgebra.{has, has-names, held, unnamed, get-recounted, same_counts}
use Rattle.asm_aggregate.specs.laws.BagAlgebra.{small_bag, small_held, small_below}
use Rattle.asm_aggregate.specs.laws.BagLaws.{none_short, none_large}
use Rattle.asm_aggregate.proofs.BagSteps.{named_if, passes_somewhere, is_short}
use Rattle.asm_aggregate.proofs.Exits.{short_outcome, above_outcome}
use Rattle.asm_aggregate.proofs.SetSteps.{IsItem, any_more}

-- what is the same at an element stays the same where it is that element or another
at_one : (b to new : ElementBag) (move : ℕ → ℕ → ℕ) (x : Element) →
    ((e : Element) → count new e ≡ cond (eq_by_cmp element_cmp e x) (move (count b x) (count to x)) (count b e)) →
    (o : Option Element) → o ≡ Some x → IsMoved move (λ e. is_the e o) b to new
at_one b to new move x at o some = record {
  counts = λ e.
      at e ∙ same e (eq_by_cmp element_cmp e x) refl
      ∙ ap (λ (p : Option Element). cond (is_the e p) (move (count b e) (count to e)) (count b e)) (sym some);
} where
  same : (e : Element) (c : Bool) → eq_by_cmp element_cmp e x ≡ c →
      cond (eq_by_cmp element_cmp e x) (move (count b x) (count to x)) (count b e)
      ≡ cond (eq_by_cmp element_cmp e x) (move (count b e) (count to e)) (count b e)
  same e true h =
      ap (λ (y : Element). cond (eq_by_cmp element_cmp e x) (move (count b y) (count to y)) (count b e))
      (sym (same_element e x h))
  same e false h =
      ap (λ c. cond c (move (count b x) (count to x)) (count b e)) h
      ∙ ap (λ c. cond c (move (count b e) (count to e)) (count b e)) (sym h)

moved_to : (b to new : ElementBag) (move : ℕ → ℕ → ℕ) (x : Element) (n : ℕ) → n ≡ move (count b x) (count to x) →
    new ≡ set_count b x n → (o : Option Element) → o ≡ Some x → IsMoved move (λ e. is_the e o) b to new
moved_to b to new move x n is put o some = at_one b to new move x
    (λ e. ap (λ c. count c e) put ∙ count-set_count b x n e
    ∙ ap (λ m. cond (eq_by_cmp element_cmp e x) m (count b e)) is) o some

kept_at : (c : Bool) (n m : ℕ) → (c ≡ true → n ≡ m) → n ≡ cond c m n
kept_at true n m h = h refl
kept_at false n m h = refl

-- nothing is to be done there
moved_by_none : (move : ℕ → ℕ → ℕ) (b to : ElementBag) (x : Element) → count b x ≡ move (count b x) (count to x) →
    (o : Option Element) → o ≡ Some x → IsMoved move (λ e. is_the e o) b to b
moved_by_none move b to x is o some = at_one b to b move x
    (λ e. kept_at (eq_by_cmp element_cmp e x) (count b e) (move (count b x) (count to x))
    (λ h. ap (count b) (same_element e x h) ∙ is)) o some

-- a count that is brought up, and one that is brought down
pub raised_by : (b to new : ElementBag) (x : Element) (n : ℕ) → n ≡ count to x → new ≡ raised_to b x n →
    (o : Option Element) → o ≡ Some x → IsMoved raised (λ e. is_the e o) b to new
raised_by b to new x n is put o some = by (nat_lt (count b x) n) refl where
  by : (t : Bool) → nat_lt (count b x) n ≡ t → IsMoved raised (λ e. is_the e o) b to new
  by true h =
      let below = ltb-true (count b x) n h in
      moved_to b to new raised x n (omega (arith, is, below)) (put ∙ raised_to-below b x n below) o some
  by false h =
      let kept = ltb-false (count b x) n h in
      subst (IsMoved raised (λ e. is_the e o) b to) (sym (put ∙ raised_to-kept b x n kept))
      (moved_by_none raised b to x (omega (arith, is, kept)) o some)

pub lowered_by : (b to new : ElementBag) (x : Element) (n : ℕ) → n ≡ count to x → new ≡ lowered_to b x n →
    (o : Option Element) → o ≡ Some x → IsMoved lowered (λ e. is_the e o) b to new
lowered_by b to new x n is took o some = by (nat_lt n (count b x)) refl where
  by : (t : Bool) → nat_lt n (count b x) ≡ t → IsMoved lowered (λ e. is_the e o) b to new
  by true h =
      let above = ltb-true n (count b x) h in
      moved_to b to new lowered x n (omega (arith, is, above)) (took ∙ lowered_to-above b x n above) o some
  by false h =
      let kept = ltb-false n (count b x) h in
      subst (IsMoved lowered (λ e. is_the e o) b to) (sym (took ∙ lowered_to-kept b x n kept))
      (moved_by_none lowered b to x (omega (arith, is, kept)) o some)

-- the elements of several actions
pub moved_none : (move : ℕ → ℕ → ℕ) (b to : ElementBag) → IsMoved move (names_in []) b to b
moved_none move b to = record { counts = λ e. refl }

pub moved_more : (move : ℕ → ℕ → ℕ) → ((n to : ℕ) → move (move n to) to ≡ move n to) →
    (old to b new : ElementBag) (xs : List Action) (i : ℕ) (x : Action) (o : Option Element) → IsItem xs i x →
    o ≡ element_of x → IsMoved move (λ e. is_the e o) b to new →
    IsMoved move (names_in (take i xs)) old to b → IsMoved move (names_in (take (i + 1) xs)) old to new
moved_more move twice old to b new xs i x o item is step had = record {
  counts = λ e.
      step.counts e
      ∙ (λ j. cond (is_the e (is j)) (move (had.counts e j) (count to e)) (had.counts e j))
      ∙ both (count old e) (count to e) (list_any (names e) (take i xs)) (names e x)
      ∙ ap (λ c. cond c (move (count old e) (count to e)) (count old e)) (sym (any_more (names e) xs i x item));
} where
  both : (n t : ℕ) (a b : Bool) →
      cond b (move (cond a (move n t) n) t) (cond a (move n t) n) ≡ cond (a || b) (move n t) n
  both n t true true = twice n t
  both n t true false = refl
  both n t false true = refl
  both n t false false = refl

pub raised_twice : (n to : ℕ) → raised (raised n to) to ≡ raised n to
raised_twice n to = omega arith

pub lowered_twice : (n to : ℕ) → lowered (lowered n to) to ≡ lowered n to
lowered_twice n to = omega arith

pub moved_all : (move : ℕ → ℕ → ℕ) (old to new : ElementBag) (xs : List Action) (i : ℕ) → length xs ≤ i →
    IsMoved move (names_in (take i xs)) old to new → IsMoved move (names_in xs) old to new
moved_all move old to new xs i whole had =
    subst (λ (l : List Action). IsMoved move (names_in l) old to new) (take_all i xs whole) had

-- what the first items pass, all do
any_part : (p : Action → Bool) (xs : List Action) (i : ℕ) → list_any p (take i xs) ≡ true → list_any p xs ≡ true
any_part p xs zero h = cc
any_part p [] (suc i) h = h
any_part p (x ∷ xs) (suc i) h = at (p x) (any_part p xs i) h where
  at : (b : Bool) → (list_any p (take i xs) ≡ true → list_any p xs ≡ true) → (b || list_any p (take i xs)) ≡ true →
      (b || list_any p xs) ≡ true
  at true later h = refl
  at false later h = later h

-- where some are raised, all can be lowered to what there was
pub lowered_back : (old to b new : ElementBag) (xs : List Action) (i : ℕ) → new ≡ b →
    IsMoved raised (names_in (take i xs)) old to b → IsMoved lowered (names_in xs) new old old
lowered_back old to b new xs i is had = record {
  counts = λ e.
      back (count old e) (count to e) (list_any (names e) (take i xs)) (list_any (names e) xs) (later e)
      ∙ (λ j. cond (names_in xs e) (lowered (same e j) (count old e)) (same e j));
} where
  same : (e : Element) → cond (names_in (take i xs) e) (raised (count old e) (count to e)) (count old e) ≡ count new e
  same e = sym (ap (λ c. count c e) is ∙ had.counts e)

  later : (e : Element) → list_any (names e) (take i xs) ≡ true → list_any (names e) xs ≡ true
  later e h = any_part (names e) xs i h

  back : (n t : ℕ) (a b : Bool) → (a ≡ true → b ≡ true) →
      n ≡ cond b (lowered (cond a (raised n t) n) n) (cond a (raised n t) n)
  back n t true true h = omega arith
  back n t true false h = let e = h refl in cc
  back n t false true h = omega arith
  back n t false false h = refl

-- what a bag has of the elements that actions name
pub record IsPart (xs : List Action) (b part : ElementBag) : Type 0 where
  pub same : (e : Element) → names_in xs e ≡ true → count part e ≡ count b e
  pub within : (e : Element) → count part e ≤ count b e

none_there : (e : Element) → count empty e ≡ 0
none_there e = ap (λ o. unwrap_or o 0) (finite.get-empty element_cmp e)

pub part_of : (xs : List Action) (b part : ElementBag) → IsMoved raised (names_in xs) empty b part → IsPart xs b part
part_of xs b part had = record {
  same = λ e named. had.counts e ∙ (λ i. cond (named i) (raised (none_there e i) (count b e)) (none_there e i)) ∙ omega arith;
  within = λ e. below (names_in xs e) (count b e) (count part e)
      (had.counts e ∙ ap (λ n. cond (names_in xs e) (raised n (count b e)) n) (none_there e));
} where
  below : (c : Bool) (n m : ℕ) → m ≡ cond c (raised 0 n) 0 → m ≤ n
  below true n m h = omega (arith, h)
  below false n m h = omega (arith, h)

-- a group of partials on a bag, of which a part is known
module _ (xs : List Action) (b part : ElementBag) (of : IsPart xs b part) where
  is_named : (side : Side) (e : Element) → 0 < amount_in side xs e → names_in xs e ≡ true
  is_named side e some = sym (has-names xs e) ∙ named_if side xs e some

  pub short_part : (error : ResultError) → IsShort (count part) (amount_in Removed xs) error →
      IsOutcome (Err error) (tabled b xs)
  short_part error h =
      short_outcome (count part) (amount_in Removed xs) error (tabled b xs)
      (λ less.
      let here = less.1 in
      let same = of.same less.0 (is_named Removed less.0 (omega (arith, here))) in
      ap (λ s. cond s (Err Short) (cond (large b xs) (Err Large) (Ok (values.Bag (renewed b xs)))))
      (is_short b xs (less.0, omega (arith, here, same)))) h

  module _ (rest : ElementBag) (taken : IsMoreBy (count rest) (count part) (amount_in Removed xs)) where
    enough : short b xs ≡ false
    enough = none_short b xs (λ e. let here = taken e in let most = of.within e in omega (arith, here, most))

    module _ (fit : All IsCount (counts b)) where
      is_above : (more : (e : Element) × (4294967295 < count rest e + amount_in Added xs e)) → large b xs ≡ true
      is_above more =
          let here = taken more.0 in
          let above = more.1 in
          let most = of.within more.0 in
          let below = small_below b more.0 (small_bag b fit) in
          let name = is_named Added more.0 (omega (arith, here, above, below, most)) in
          let same = of.same more.0 name in
          let new : 4294967295 < new_count b xs more.0 = omega (arith, here, above, same) in
          passes_somewhere (λ e. is_large (new_count b xs e)) (named xs) more.0 (has-names xs more.0 ∙ name)
          (lt-ltb _ _ new)

      pub large_part : (error : ResultError) → IsAbove (λ e. count rest e + amount_in Added xs e) error →
          IsOutcome (Err error) (tabled b xs)
      large_part error h =
          above_outcome (λ e. count rest e + amount_in Added xs e) error (tabled b xs)
          (λ more. λ i. cond (enough i) (Err Short)
          (cond (is_above more i) (Err Large) (Ok (values.Bag (renewed b xs))))) h

      module _ (last : ElementBag) (fits : All IsCount (counts last))
          (put : IsMoreBy (count rest) (count last) (amount_in Added xs)) where
        new_is : (e : Element) → names_in xs e ≡ true → count last e ≡ new_count b xs e
        new_is e name =
            let gone = taken e in
            let come = put e in
            let same = of.same e name in
            omega (arith, gone, come, same)

        low : (e : Element) (c : Bool) → has e (named xs) ≡ c → new_count b xs e < 2 ^ 32
        low e true h =
            subst (λ (n : ℕ). n < 2 ^ 32) (new_is e (sym (has-names xs e) ∙ h))
            (small_below last e (small_bag last fits))
        low e false h =
            let gone = unnamed Removed xs e h in
            let come = unnamed Added xs e h in
            let below = small_below b e (small_bag b fit) in
            omega (arith, gone, come, below)

        same_at : (e : Element) (c : Bool) → has e (named xs) ≡ c →
            cond (has e (named xs)) (held (new_count b xs e)) (finite.get b e)
            ≡ cond (has e (named xs)) (held (count last e)) (finite.get b e)
        same_at e true h =
            ap (λ n. cond (has e (named xs)) (held n) (finite.get b e))
            (sym (new_is e (sym (has-names xs e) ∙ h)))
        same_at e false h = ap (λ c. cond c (held (new_count b xs e)) (finite.get b e)) h
            ∙ ap (λ c. cond c (held (count last e)) (finite.get b e)) (sym h)

        pub part_answer : tabled b xs ≡ Ok (values.Bag (recounted b (count last) (named xs)))
        part_answer =
            let fitting : large b xs ≡ false = none_large b xs (λ e. low e (has e (named xs)) refl) in
            let same : renewed b xs ≡ recounted b (count last) (named xs) =
            same_counts _ _
            (λ e. get-recounted b (new_count b xs) (named xs) e ∙ same_at e (has e (named xs)) refl
            ∙ sym (get-recounted b (count last) (named xs) e)) in
            λ i. cond (enough i) (Err Short) (cond (fitting i) (Err Large) (Ok (values.Bag (same i))))

-- bags with the same counts are the same
pub same_bags : (b c : ElementBag) → All IsCount (counts b) → All IsCount (counts c) →
    ((e : Element) → count b e ≡ count c e) → b ≡ c
same_bags b c fit fits same = same_counts b c
    (λ e. small_held b e (small_bag b fit) ∙ ap held (same e) ∙ sym (small_held c e (small_bag c fits)))

-- what is raised and then lowered has the counts of the other bag
pub recounted_by : (b after middle new : ElementBag) (xs : List Action) → All IsCount (counts b) →
    All IsCount (counts new) → IsMoved raised (names_in xs) b after middle →
    IsMoved lowered (names_in xs) middle after new → new ≡ recounted b (count after) (named xs)
recounted_by b after middle new xs fit fits up down = same_counts new _
    (λ e. small_held new e (small_bag new fits)
    ∙ ap held (down.counts e
    ∙ ap (λ n. cond (names_in xs e) (lowered n (count after e)) n) (up.counts e))
    ∙ by_name e (names_in xs e)
    ∙ ap (λ c. cond c (held (count after e)) (finite.get b e)) (sym (has-names xs e))
    ∙ sym (get-recounted b (count after) (named xs) e)) where
      by_name : (e : Element) (c : Bool) →
          held (cond c (lowered (cond c (raised (count b e) (count after e)) (count b e)) (count after e))
          (cond c (raised (count b e) (count after e)) (count b e)))
          ≡ cond c (held (count after e)) (finite.get b e)
      by_name e true = ap held (omega arith)
      by_name e false = sym (small_held b e (small_bag b fit))

-- what is lowered to the counts that there were is as it was
pub put_back : (b before middle new : ElementBag) (xs : List Action) → All IsCount (counts b) →
    All IsCount (counts new) → IsMoved raised (names_in xs) empty b before →
    IsMoved lowered (names_in xs) middle b b → IsMoved lowered (names_in xs) middle before new → new ≡ b
put_back b before middle new xs fit fits part back down = same_bags new b fits fit
    (λ e. down.counts e ∙ by_name e (names_in xs e) refl ∙ sym (back.counts e)) where
      by_name : (e : Element) (c : Bool) → names_in xs e ≡ c →
          cond (names_in xs e) (lowered (count middle e) (count before e)) (count middle e)
          ≡ cond (names_in xs e) (lowered (count middle e) (count b e)) (count middle e)
      by_name e true h =
          ap (λ n. cond (names_in xs e) (lowered (count middle e) n) (count middle e))
          ((part_of xs b before part).same e h)
      by_name e false h =
          ap (λ c. cond c (lowered (count middle e) (count before e)) (count middle e)) h
          ∙ ap (λ c. cond c (lowered (count middle e) (count b e)) (count middle e)) (sym h)
