-- The aggregator of counters keeps the laws.
use Rattle.std.proofs.Common.{◌≡◌, ◌≢◌, ℤ, pos, ◌+ℤ◌, Bool, true, false, cond, not, ◌&&◌}
use Rattle.std.proofs.Common.{List, [], ◌∷◌, ◌++◌, map, refl, sym, ap, subst, ◌∙◌, arith}
use Rattle.std.specs.Prelude.{Ok, Err, Option, None, Some, unwrap_or, is_some, IsPermutation, FitsSigned}
use Rattle.std.specs.Int.{w64}
use Rattle.std.specs.Ordering.{int_eq}
use Rattle.std.specs.List.{list_any, list_all}
use Rattle.std.proofs.lemmas.Int.{ints}
use Rattle.std.proofs.lemmas.Bool.{not-false}
use Rattle.asm_element.specs.declared.element.Element.TheVariants.{Num}
use Rattle.asm_element.specs.Value as value
use Rattle.asm_element.specs.declared.value.Value.{Value}
use Rattle.asm_element.specs.declared.value.Value.TheVariants as values
use Rattle.asm_element.specs.Tests.{ok_is}
use Rattle.asm_update.specs.Action.{is_of, kind_of, AllProper}
use Rattle.asm_update.specs.Aggregator.{AggregatorLaws, NoJoin, after}
use Rattle.asm_update.specs.Fire.{GroupResult}
use Rattle.asm_update.specs.declared.action.Action.{Action}
use Rattle.asm_update.specs.declared.action.Action.TheVariants.{Increment}
use Rattle.asm_update.specs.declared.action.Family.{Family}
use Rattle.asm_update.specs.declared.action.Family.TheVariants.{Count}
use Rattle.asm_update.specs.declared.clash.Cause.TheVariants.{Mixed, Kind, Large}
use Rattle.asm_aggregate.specs.Families.{is_kind}
use Rattle.asm_aggregate.specs.CountMeaning.{owns_counts, number, total, new_number, is_outside, is_beyond}
use Rattle.asm_aggregate.specs.CountMeaning.{split, stands_alone, increments, count_result, count_joins, count_meaning}
use Rattle.asm_aggregate.specs.laws.CountAlgebra.{total-IsPermutation, total-split, all-increments, some-split}
use Rattle.asm_aggregate.specs.laws.CountAlgebra.{inside, fits, counter_is, sum_is_zero, not_beyond}
use Rattle.asm_aggregate.specs.laws.FamilyLemmas.{kind_is, all_of_one, all-IsPermutation, all_partial, joined_family}
use Rattle.asm_aggregate.specs.laws.FamilyLemmas.{nil_parts}
use Rattle.asm_aggregate.specs.laws.TableLemmas.{passed}

any_order : (old : Value) (regular : Option Value) (xs ys : List Action) → IsPermutation xs ys →
    count_result old regular ys ≡ count_result old regular xs
any_order old regular xs ys p = rw (all-IsPermutation (is_of Count) xs ys p, total-IsPermutation xs ys p) refl

mixed : (old : Value) (regular : Option Value) (partials : List Action) →
    ((f : Family) → owns_counts f ≡ true → list_all (is_of f) partials ≡ false) →
    count_result old regular partials ≡ Err Mixed
mixed old regular partials h = let none = h Count refl in rw none refl

-- what follows for the list and the base of a group that has a result
record HadResult (old : Value) (regular : Option Value) (partials : List Action) (w : Value) : Type 0 where
  counts : list_all (is_of Count) partials ≡ true
  on_number : is_kind Count (unwrap_or regular old) ≡ true
  alone : is_some regular ≡ false
  within : is_outside (new_number (number (unwrap_or regular old)) partials) ≡ false
  gave : values.Plain (Num (new_number (number (unwrap_or regular old)) partials)) ≡ w

had_result : (old w : Value) (regular : Option Value) (partials : List Action) →
    count_result old regular partials ≡ Ok w → HadResult old regular partials w
had_result old w regular partials h =
    let counts = passed _ _ _ _ h in
    let kind = passed _ _ _ _ counts.1 in
    let alone = passed _ _ _ _ kind.1 in
    let within = passed _ _ _ _ alone.1 in
    record {
      counts = not-false _ counts.0;
      on_number = not-false _ kind.0;
      alone = alone.0;
      within = within.0;
      gave = ok_is _ _ within.1;
    }

after_counts : (v w : Value) (actions : List Action) → after count_meaning v actions ≡ Ok w →
    list_all (is_of Count) actions ≡ true
after_counts v w [] h = refl
after_counts v w (x ∷ xs) h = (had_result v w None (x ∷ xs) h).counts

-- what a number is as a counter's value
abbrev tabled : ℤ → GroupResult
tabled n = cond (is_outside n) (Err Large) (Ok (values.Plain (Num n)))

after_on_number : (n : ℤ) (actions : List Action) → FitsSigned w64 n → list_all (is_of Count) actions ≡ true →
    after count_meaning (values.Plain (Num n)) actions ≡ tabled (new_number n actions)
after_on_number n [] p h =
    let same : n +ℤ pos 0 ≡ n = omega (arith, ints) in
    sym (ap tabled same ∙ ap (λ b. cond b (Err Large) (Ok (values.Plain (Num n)))) (inside n p))
after_on_number n (x ∷ xs) p h = rw h refl

after_off_number : (v : Value) (actions : List Action) → is_kind Count v ≡ false →
    list_all (is_of Count) actions ≡ true → actions ≢ [] → after count_meaning v actions ≡ Err Kind
after_off_number v [] off all ne = absurd (ne refl)
after_off_number v (x ∷ xs) off all ne = rw (all, off) refl

abbrev count_joined : List Action → List Action → List Action
count_joined first second = increments first second (total first +ℤ total second)

-- two lists in a row, each of them of increments alone
record AreCounts (first second : List Action) : Type 0 where
  one : list_all (is_of Count) first ≡ true
  two : list_all (is_of Count) second ≡ true

-- the joined list has the sum of both, and increments alone
joined_total : (first second : List Action) (s : ℤ) → total (increments first second s) ≡ s
joined_total first second s =
    by_test (int_eq s (pos 0)) (not (stands_alone first second)) refl where
      by_test : (b c : Bool) → int_eq s (pos 0) ≡ b →
          total (cond (b && c) [] (map Increment (split s))) ≡ s
      by_test true true e = sym (sum_is_zero s e)
      by_test true false e = total-split s
      by_test false c e = total-split s

joined_counts : (first second : List Action) (s : ℤ) → list_all (is_of Count) (increments first second s) ≡ true
joined_counts first second s = by_test (int_eq s (pos 0) && not (stands_alone first second)) where
  by_test : (b : Bool) → list_all (is_of Count) (cond b [] (map Increment (split s))) ≡ true
  by_test true = refl
  by_test false = all-increments (split s)

-- where the first list is empty and the second isn't, the joined list isn't
alone_some : (y : Action) (ys : List Action) (s : ℤ) → increments [] (y ∷ ys) s ≢ []
alone_some y ys s h = by_test (int_eq s (pos 0)) h where
  by_test : (b : Bool) → cond (b && false) [] (map Increment (split s)) ≢ []
  by_test true h = some-split s h
  by_test false h = some-split s h

summed : (n a b s : ℤ) → s ≡ a +ℤ b → n +ℤ s ≡ (n +ℤ a) +ℤ b
summed n a b s h = omega (arith, ints, h)

on_number : (n : ℤ) (w : Value) (first second : List Action) → FitsSigned w64 n → AreCounts first second →
    after count_meaning (values.Plain (Num n)) first ≡ Ok w →
    after count_meaning (values.Plain (Num n)) (count_joined first second) ≡ after count_meaning w second
on_number n w first second p are h =
    let within = passed _ _ _ _ (sym (after_on_number n first p are.one) ∙ h) in
    let s = total first +ℤ total second in
    let same = summed n (total first) (total second) (total (count_joined first second)) (joined_total first second s) in
    after_on_number n (count_joined first second) p (joined_counts first second s)
    ∙ ap tabled same
    ∙ sym (ap (λ u. after count_meaning u second) (sym (ok_is _ _ within.1))
    ∙ after_on_number (n +ℤ total first) second (fits _ within.0) are.two)

off_number : (v w : Value) (first second : List Action) → is_kind Count v ≡ false → AreCounts first second →
    first ++ second ≢ [] → after count_meaning v first ≡ Ok w →
    after count_meaning v (count_joined first second) ≡ after count_meaning w second
off_number v w [] [] off are ne h = absurd (ne refl)
off_number v w [] (y ∷ ys) off are ne h =
    let s = total [] +ℤ total (y ∷ ys) in
    after_off_number v (count_joined [] (y ∷ ys)) off (joined_counts [] (y ∷ ys) s) (alone_some y ys s)
    ∙ sym (ap (λ u. after count_meaning u (y ∷ ys)) (sym (ok_is _ _ h))
    ∙ after_off_number v (y ∷ ys) off are.two (λ e. cc))
off_number v w (x ∷ xs) second off are ne h = let on = (had_result v w None (x ∷ xs) h).on_number in cc

in_sequence : (v w : Value) (first second : List Action) → value.IsProper v → AreCounts first second →
    first ++ second ≢ [] → after count_meaning v first ≡ Ok w →
    after count_meaning v (count_joined first second) ≡ after count_meaning w second
in_sequence v w first second pv are ne h = by_kind (is_kind Count v) refl where
  by_kind : (b : Bool) → is_kind Count v ≡ b →
      after count_meaning v (count_joined first second) ≡ after count_meaning w second
  by_kind false off = off_number v w first second off are ne h
  by_kind true on =
      let is = counter_is v on in
      ap (λ u. after count_meaning u (count_joined first second)) is
      ∙ on_number (number v) w first second (subst value.IsProper is pv) are
      (ap (λ u. after count_meaning u first) (sym is) ∙ h)

-- what follows for two lists that have a join
record HadJoin (first second list : List Action) : Type 0 where
  are : AreCounts first second
  gave : count_joined first second ≡ list

had_join : (first second list : List Action) → count_joins first second ≡ Ok list → HadJoin first second list
had_join first second list h =
    let one = passed _ _ _ _ h in
    let two = passed _ _ _ _ one.1 in
    let within = passed _ _ _ _ two.1 in
    record {
      are = record { one = not-false _ one.0; two = not-false _ two.0 };
      gave = ok_is _ _ within.1;
    }

join_is_sequence : (v w : Value) (first second list : List Action) →
    value.IsProper v → AllProper first → AllProper second → first ++ second ≢ [] →
    count_joins first second ≡ Ok list → after count_meaning v first ≡ Ok w →
    after count_meaning v list ≡ after count_meaning w second
join_is_sequence v w first second list pv _ _ ne join h =
    let had = had_join first second list join in
    ap (after count_meaning v) (sym had.gave) ∙ in_sequence v w first second pv had.are ne h

-- two lists that have results one after the other add up to the difference of two counters
sum_within : (n : ℤ) (w x : Value) (first second : List Action) → FitsSigned w64 n →
    after count_meaning (values.Plain (Num n)) first ≡ Ok w → after count_meaning w second ≡ Ok x →
    is_beyond (total first +ℤ total second) ≡ false
sum_within n w x first second p h k =
    let one = passed _ _ _ _ (sym (after_on_number n first p (after_counts _ w first h)) ∙ h) in
    let between = ap (λ u. after count_meaning u second) (ok_is _ _ one.1) ∙ k in
    let two = passed _ _ _ _
    (sym (after_on_number (n +ℤ total first) second (fits _ one.0) (after_counts w x second k)) ∙ between) in
    not_beyond n (total first) (total second) p (fits _ two.0)

never_off : (v w x : Value) (first second : List Action) → is_kind Count v ≡ false → first ++ second ≢ [] →
    after count_meaning v first ≡ Ok w → after count_meaning w second ≡ Ok x → ⊥
never_off v w x [] [] off ne h k = ne refl
never_off v w x [] (y ∷ ys) off ne h k =
    let on = (had_result w x None (y ∷ ys) k).on_number in
    let off_w = ap (is_kind Count) (sym (ok_is _ _ h)) ∙ off in cc
never_off v w x (z ∷ zs) second off ne h k = let on = (had_result v w None (z ∷ zs) h).on_number in cc

refused_join : (v w x : Value) (first second : List Action) (refusal : NoJoin) →
    value.IsProper v → AllProper first → AllProper second → first ++ second ≢ [] →
    count_joins first second ≡ Err refusal → after count_meaning v first ≡ Ok w → after count_meaning w second ≢ Ok x
refused_join v w x first second refusal pv _ _ ne join h k = by_kind (is_kind Count v) refl where
  by_kind : (b : Bool) → is_kind Count v ≡ b → ⊥
  by_kind false off = never_off v w x first second off ne h k
  by_kind true on =
      let is = counter_is v on in
      let within = sum_within (number v) w x first second (subst value.IsProper is pv)
      (ap (λ u. after count_meaning u first) (sym is) ∙ h) k in
      let had = rw (after_counts v w first h, after_counts w x second k, within) at join in
      cc

no_regular : (old v w : Value) (partials : List Action) → count_result old (Some v) partials ≡ Ok w → w ≡ v
no_regular old v w partials h = let alone = (had_result old w (Some v) partials h).alone in cc

gave_number : (old w : Value) (regular : Option Value) (partials : List Action) → HadResult old regular partials w →
    is_kind Count w ≡ true
gave_number old w regular partials had = ap (is_kind Count) (sym had.gave)

kind_kept : (f : Family) (old w : Value) (regular : Option Value) (partials : List Action) → partials ≢ [] →
    list_all (is_of f) partials ≡ true → count_result old regular partials ≡ Ok w →
    (kind_of (unwrap_or regular old) ≡ Some f) × (kind_of w ≡ Some f)
kind_kept f old w regular partials ne all h =
    let had = had_result old w regular partials h in
    let same : Count ≡ f = all_of_one Count f partials ne had.counts all in (
      kind_is Count _ had.on_number ∙ ap Some same,
      kind_is Count _ (gave_number old w regular partials had) ∙ ap Some same,
    )

proper_kept : (old w : Value) (partials : List Action) → value.IsProper old → AllProper partials →
    count_result old None partials ≡ Ok w → value.IsProper w
proper_kept old w partials po pp h =
    let had = had_result old w None partials h in subst value.IsProper had.gave (fits _ had.within)

join_all : (first second list : List Action) → count_joins first second ≡ Ok list →
    list_all (is_of Count) list ≡ true
join_all first second list h =
    ap (list_all (is_of Count)) (sym (had_join first second list h).gave)
    ∙ joined_counts first second (total first +ℤ total second)

join_family : (f : Family) (first second list : List Action) → count_joins first second ≡ Ok list →
    list_any (is_of f) list ≡ true → list_any (is_of f) (first ++ second) ≡ true
join_family f first second list join h =
    let had = had_join first second list join in
    joined_family Count f first second list (record {
      one = had.are.one;
      two = had.are.two;
      both = join_all first second list join;
    })
    (λ none. let parts = nil_parts first second none in
    sym had.gave ∙ (λ i. count_joined (parts.0 i) (parts.1 i))) h

pub count_laws : AggregatorLaws count_meaning
count_laws = record {
  any_order = any_order;
  mixed = mixed;
  join_is_sequence = join_is_sequence;
  refused_join = refused_join;
  regular_result = no_regular;
  regular_decides = λ old other v partials. refl;
  kind_kept = kind_kept;
  proper_kept = proper_kept;
  join_is_partial = λ first second list h. all_partial Count list (join_all first second list h);
  join_family = join_family;
}
