-- Locations of a name that are looked at one by one, in ascending order: what is shown there, and how many show a value.
use Rattle.std.proofs.Common.{◌≡◌, ◌+◌, ◌&&◌, ℕ, Bool, true, false, cond, not, is_some, unwrap_or, min, T, List, [], ◌∷◌, Option, Some, None, arith, refl, sym, ap, subst, ◌∙◌}
use Rattle.std.proofs.lemmas.Bool.{false≢true}
use Rattle.std.specs.Ordering.{eq_by_cmp}
use Rattle.std.specs.FinMap as finite
use Rattle.asm_element.specs.Place.{Place, location_cmp, location_cmp_total, same_location}
use Rattle.asm_element.specs.Ascending.{first_gone, rising_rest}
use Rattle.asm_element.specs.Tests.{itself}
use Rattle.asm_element.specs.Value.{is_undef, undef}
use Rattle.asm_element.specs.declared.value.Value.{Value}
use Rattle.asm_update.specs.State.{State, val}
use Rattle.asm_state.specs.Scans.{has_name}
use Rattle.asm_state.specs.Shown.{HidesAll, IsCountOf, IsNoneShown, count_limit, shown_as_opened, shown_there, with_own}
use Rattle.asm_state.specs.View.{StateView, value_at, value_over}
use Rattle.asm_state.specs.declared.entries.WrittenValue.{WrittenValue}
use Rattle.asm_state.proofs.Insertions.{rising_start}
use Rattle.asm_state.proofs.Wanted.{all_has}
use Rattle.asm_state.proofs.Onward.{IsOnward, onward_past, onward_step}

module _ {X : Type 0} (first : Place) (shown : Place → Value) (m : finite.FinMap location_cmp X) where
  -- no value is shown where the map has something, except maybe at the locations that are left
  pub record IsPassing (left : List (Place × X)) : Type 0 where
    pub walk : IsOnward first left
    pub passed : (q : Place) → has_name first.name q ≡ true → is_some (finite.get m q) ≡ true →
        is_some (finite.find location_cmp q left) ≡ false → is_undef (shown q) ≡ true

  pub passing_step : (k : Place) (x : X) (rest : List (Place × X)) → is_undef (shown k) ≡ true →
      IsPassing ((k, x) ∷ rest) → IsPassing rest
  passing_step k x rest none is = record {
    walk = onward_step first k x rest is.walk;
    passed = λ q named has gone. by_tie q named has gone (eq_by_cmp location_cmp q k) refl;
  } where
    by_tie : (q : Place) → has_name first.name q ≡ true → is_some (finite.get m q) ≡ true →
        is_some (finite.find location_cmp q rest) ≡ false → (b : Bool) → eq_by_cmp location_cmp q k ≡ b → is_undef (shown q) ≡ true
    by_tie q named has gone true tie = ap (λ p. is_undef (shown p)) (same_location q k tie) ∙ none
    by_tie q named has gone false apart =
        is.passed q named has (ap (λ b. is_some (cond b (Some x) (finite.find location_cmp q rest))) apart ∙ gone)

  pub passing_end : IsPassing [] → HidesAll m first.name shown
  passing_end is q named has = is.passed q named has refl

  pub passing_past : (k : Place) (x : X) (rest : List (Place × X)) → has_name first.name k ≡ false →
      IsPassing ((k, x) ∷ rest) → HidesAll m first.name shown
  passing_past k x rest other is q named has = is.passed q named has (onward_past first k x rest is.walk other q named)

  module _ (none : first.args ≡ []) (left : List (Place × X)) (walk : IsOnward first left)
      (all : (q : Place) → has_name first.name q ≡ true → finite.find location_cmp q left ≡ finite.get m q) where
    pub passing_start : IsPassing left
    passing_start = record {
      walk = walk;
      passed = λ q named has gone. absurd (false≢true (sym gone ∙ ap is_some (all q named) ∙ has));
    }

module _ {X : Type 0} (first : Place) (m : finite.FinMap location_cmp X) where
  -- what is left of the name is what the map has there
  pub record IsAhead (left : List (Place × X)) : Type 0 where
    pub walk : IsOnward first left
    pub of : (q : Place) (x : X) → has_name first.name q ≡ true → finite.find location_cmp q left ≡ Some x → finite.get m q ≡ Some x

  pub ahead_start : (left : List (Place × X)) → IsOnward first left →
      ((q : Place) → has_name first.name q ≡ true → finite.find location_cmp q left ≡ finite.get m q) → IsAhead left
  ahead_start left walk all = record { walk = walk; of = λ q x named is. sym (all q named) ∙ is }

  pub ahead_first : (k : Place) (x : X) (rest : List (Place × X)) → IsAhead ((k, x) ∷ rest) → has_name first.name k ≡ true →
      finite.get m k ≡ Some x
  ahead_first k x rest is named =
      is.of k x named (ap (λ b. cond b (Some x) (finite.find location_cmp k rest)) (itself location_cmp_total k))

  pub ahead_step : (k : Place) (x : X) (rest : List (Place × X)) → IsAhead ((k, x) ∷ rest) → IsAhead rest
  ahead_step k x rest is = record {
    walk = onward_step first k x rest is.walk;
    of = λ q y named found. by_tie q y named found (eq_by_cmp location_cmp q k) refl;
  } where
    by_tie : (q : Place) (y : X) → has_name first.name q ≡ true → finite.find location_cmp q rest ≡ Some y → (b : Bool) →
        eq_by_cmp location_cmp q k ≡ b → finite.get m q ≡ Some y
    by_tie q y named found true tie =
        absurd (none_is_some y (sym (ap (λ p. finite.find location_cmp p rest) (same_location q k tie) ∙ first_gone location_cmp k x rest is.walk.rising) ∙ found)) where
          none_is_some : (y : X) → None ≡ Some y → ⊥
          none_is_some y e = false≢true (ap is_some e)
    by_tie q y named found false apart =
        is.of q y named (ap (λ b. cond b (Some x) (finite.find location_cmp q rest)) apart ∙ found)

module _ {X : Type 0} (before after : Place → Option Value) where
  -- so many are counted: at the locations that are left as before, at the others as it has to be
  pub record IsCounting (left : List (Place × X)) (n : ℕ) : Type 0 where
    pub rising : T (finite.is_sorted location_cmp left)
    pub counted : State
    pub each : (q : Place) → finite.get counted q ≡ cond (is_some (finite.find location_cmp q left)) (before q) (after q)
    pub count : n ≡ min (finite.len counted) count_limit

  -- at the first of them nothing is counted
  pub counting_skip : (k : Place) (x : X) (rest : List (Place × X)) (n : ℕ) → after k ≡ before k →
      IsCounting ((k, x) ∷ rest) n → IsCounting rest n
  counting_skip k x rest n same is = record {
    rising = rising_rest location_cmp k x rest is.rising;
    counted = is.counted;
    each = λ q. is.each q ∙ by_tie q (eq_by_cmp location_cmp q k) refl;
    count = is.count;
  } where
    by_tie : (q : Place) (b : Bool) → eq_by_cmp location_cmp q k ≡ b →
        cond (is_some (cond b (Some x) (finite.find location_cmp q rest))) (before q) (after q)
        ≡ cond (is_some (finite.find location_cmp q rest)) (before q) (after q)
    by_tie q true tie =
        ap before (same_location q k tie) ∙ sym same ∙ ap after (sym (same_location q k tie))
        ∙ sym (ap (λ (o : Option X). cond (is_some o) (before q) (after q)) (ap (λ p. finite.find location_cmp p rest) (same_location q k tie) ∙ first_gone location_cmp k x rest is.rising))
    by_tie q false apart = refl

  -- there is one more
  pub counting_more : (k : Place) (x : X) (rest : List (Place × X)) (n m : ℕ) (v : Value) → before k ≡ None → after k ≡ Some v →
      m ≡ min (n + 1) count_limit → IsCounting ((k, x) ∷ rest) n → IsCounting rest m
  counting_more k x rest n m v new found more is = record {
    rising = rising_rest location_cmp k x rest is.rising;
    counted = finite.insert is.counted k v;
    each = λ q. finite.get-insert location_cmp_total is.counted k v q ∙ by_tie q (eq_by_cmp location_cmp q k) refl;
    count = longer;
  } where
    by_tie : (q : Place) (b : Bool) → eq_by_cmp location_cmp q k ≡ b →
        cond b (Some v) (finite.get is.counted q) ≡ cond (is_some (finite.find location_cmp q rest)) (before q) (after q)
    by_tie q true tie =
        sym (ap after (same_location q k tie) ∙ found)
        ∙ sym (ap (λ (o : Option X). cond (is_some o) (before q) (after q)) (ap (λ p. finite.find location_cmp p rest) (same_location q k tie) ∙ first_gone location_cmp k x rest is.rising))
    by_tie q false apart =
        is.each q ∙ ap (λ b. cond (is_some (cond b (Some x) (finite.find location_cmp q rest))) (before q) (after q)) apart

    absent : finite.get is.counted k ≡ None
    absent =
        is.each k ∙ ap (λ b. cond (is_some (cond b (Some x) (finite.find location_cmp k rest))) (before k) (after k)) (itself location_cmp_total k)
        ∙ new

    longer : m ≡ min (finite.len (finite.insert is.counted k v)) count_limit
    longer =
        let one : finite.len (finite.insert is.counted k v) ≡ finite.len is.counted + 1 =
        finite.len-insert location_cmp_total is.counted k v ∙ ap (λ (o : Option Value). cond (is_some o) (finite.len is.counted) (finite.len is.counted + 1)) absent in
        omega (arith, one, more, is.count)

  -- there is one more, or none, by a test
  pub counting_step : (k : Place) (x : X) (rest : List (Place × X)) (n m : ℕ) (v : Value) (b : Bool) → before k ≡ None →
      after k ≡ cond b (Some v) None → m ≡ cond b (min (n + 1) count_limit) n → IsCounting ((k, x) ∷ rest) n → IsCounting rest m
  counting_step k x rest n m v true new found more is = counting_more k x rest n m v new found more is
  counting_step k x rest n m v false new found more is =
      subst (λ j. IsCounting rest j) (sym more) (counting_skip k x rest n (found ∙ sym new) is)

  pub counting_end : (n : ℕ) → IsCounting [] n → IsCountOf after n
  counting_end n is = (is.counted, is.each, is.count)

  -- past the locations of the name nothing is counted
  pub counting_past : (first k : Place) (x : X) (rest : List (Place × X)) (n : ℕ) → has_name first.name k ≡ false →
      ((q : Place) → has_name first.name q ≡ false → before q ≡ after q) → IsOnward first ((k, x) ∷ rest) →
      IsCounting ((k, x) ∷ rest) n → IsCountOf after n
  counting_past first k x rest n other apart walk is = (is.counted, (λ q. is.each q ∙ by_name q (has_name first.name q) refl), is.count) where
    same : (b : Bool) (v : Option Value) → cond b v v ≡ v
    same true v = refl
    same false v = refl

    by_name : (q : Place) (b : Bool) → has_name first.name q ≡ b →
        cond (is_some (finite.find location_cmp q ((k, x) ∷ rest))) (before q) (after q) ≡ after q
    by_name q true named =
        ap (λ b. cond b (before q) (after q)) (onward_past first k x rest walk other q named)
    by_name q false unnamed =
        ap (λ (v : Option Value). cond (is_some (finite.find location_cmp q ((k, x) ∷ rest))) v (after q)) (apart q unnamed)
        ∙ same (is_some (finite.find location_cmp q ((k, x) ∷ rest))) (after q)

-- what a look-up shows
pub is_hidden : (v : Value) → not (is_undef v) ≡ false → is_undef v ≡ true
is_hidden v none = by_test (is_undef v) none where
  by_test : (b : Bool) → not b ≡ false → b ≡ true
  by_test true e = refl
  by_test false e = absurd (false≢true (sym e))

pub is_seen : (v : Value) → not (is_undef v) ≡ true → is_undef v ≡ false
is_seen v some = by_test (is_undef v) some where
  by_test : (b : Bool) → not b ≡ true → b ≡ false
  by_test false e = refl
  by_test true e = absurd (false≢true e)

-- THE OPENING VALUES

module _ (s : StateView) (name : List ℕ) (shown : Place → Value) where
  unnamed : (q : Place) (b : Bool) (v : Value) → has_name name q ≡ false → cond (has_name name q && b) (Some v) None ≡ None
  unnamed q b v other = ap (λ t. cond (t && b) (Some v) None) other

  pub unnamed_opened : (q : Place) → has_name name q ≡ false → None ≡ shown_as_opened s name shown q
  unnamed_opened q other = sym (unnamed q _ (shown q) other)

  pub unnamed_there : (q : Place) → has_name name q ≡ false → shown_as_opened s name shown q ≡ shown_there s name shown q
  unnamed_there q other = unnamed q _ (shown q) other ∙ sym (unnamed q _ (shown q) other)

  -- at a location of the name, the tests decide
  pub opened_by : (k : Place) (b : Bool) → has_name name k ≡ true →
      b ≡ (not (is_undef (val s.base k)) && (not (is_some (finite.get s.entries k)) && not (is_undef (shown k)))) →
      shown_as_opened s name shown k ≡ cond b (Some (shown k)) None
  opened_by k b named is =
      ap (λ t. cond (t && (not (is_undef (val s.base k)) && (not (is_some (finite.get s.entries k)) && not (is_undef (shown k))))) (Some (shown k)) None) named
      ∙ ap (λ t. cond t (Some (shown k)) None) (sym is)

  pub there_by : (k : Place) (b : Bool) → has_name name k ≡ true →
      b ≡ (not (is_undef (value_at s k)) && not (is_undef (shown k))) →
      shown_there s name shown k ≡ cond b (Some (shown k)) None
  there_by k b named is =
      ap (λ t. cond (t && (not (is_undef (value_at s k)) && not (is_undef (shown k)))) (Some (shown k)) None) named
      ∙ ap (λ t. cond t (Some (shown k)) None) (sym is)

  -- where an entry is, nothing has its opening value
  pub entry_not_opened : (k : Place) (w : WrittenValue) → finite.get s.entries k ≡ Some w → shown_as_opened s name shown k ≡ None
  entry_not_opened k w has =
      ap (λ (o : Option WrittenValue). cond (has_name name k && (not (is_undef (val s.base k)) && (not (is_some o) && not (is_undef (shown k))))) (Some (shown k)) None) has
      ∙ none (has_name name k) (not (is_undef (val s.base k))) where
        none : (a b : Bool) → cond (a && (b && false)) (Some (shown k)) None ≡ None
        none true true = refl
        none true false = refl
        none false b = refl

  module _ (left : List (Place × Value)) (rising : T (finite.is_sorted location_cmp left))
      (all : (q : Place) → has_name name q ≡ true → finite.find location_cmp q left ≡ finite.get s.base q) where
    pub opened_start : IsCounting (λ q. None) (shown_as_opened s name shown) left 0
    opened_start = record {
      rising = rising;
      counted = finite.empty;
      each = λ q. finite.get-empty location_cmp q ∙ by_name q (has_name name q) refl;
      count = let none = finite.len-empty location_cmp Value in omega (arith, none);
    } where
      same : (b : Bool) (v : Option Value) → v ≡ cond b v v
      same true v = refl
      same false v = refl

      not_there : (q : Place) (o : Option Value) → (b : Bool) → finite.get s.base q ≡ o →
          None ≡ cond (is_some o) None (cond (has_name name q && (not (is_undef (unwrap_or o undef)) && b)) (Some (shown q)) None)
      not_there q (Some v) b e = refl
      not_there q None b e = none (has_name name q) where
        none : (a : Bool) → None ≡ cond (a && (false && b)) (Some (shown q)) None
        none true = refl
        none false = refl

      by_name : (q : Place) (b : Bool) → has_name name q ≡ b →
          None ≡ cond (is_some (finite.find location_cmp q left)) None (shown_as_opened s name shown q)
      by_name q true named =
          not_there q (finite.get s.base q) (not (is_some (finite.get s.entries q)) && not (is_undef (shown q))) refl
          ∙ sym (ap (λ (o : Option Value). cond (is_some o) None (shown_as_opened s name shown q)) (all q named))
      by_name q false other =
          same (is_some (finite.find location_cmp q left)) None
          ∙ ap (cond (is_some (finite.find location_cmp q left)) None) (unnamed_opened q other)

  module _ (left : List (Place × WrittenValue)) (n : ℕ) (rising : T (finite.is_sorted location_cmp left))
      (all : (q : Place) → has_name name q ≡ true → finite.find location_cmp q left ≡ finite.get s.entries q)
      (opened : IsCountOf (shown_as_opened s name shown) n) where
    pub there_start : IsCounting (shown_as_opened s name shown) (shown_there s name shown) left n
    there_start = record {
      rising = rising;
      counted = opened.0;
      each = λ q. opened.1 q ∙ by_name q (has_name name q) refl;
      count = opened.2;
    } where
      same : (b : Bool) (v : Option Value) → v ≡ cond b v v
      same true v = refl
      same false v = refl

      by_entry : (q : Place) (o : Option WrittenValue) →
          cond (has_name name q && (not (is_undef (val s.base q)) && (not (is_some o) && not (is_undef (shown q))))) (Some (shown q)) None
          ≡ cond (is_some o) (cond (has_name name q && (not (is_undef (val s.base q)) && (not (is_some o) && not (is_undef (shown q))))) (Some (shown q)) None)
          (cond (has_name name q && (not (is_undef (value_over (val s.base q) o)) && not (is_undef (shown q)))) (Some (shown q)) None)
      by_entry q (Some w) = refl
      by_entry q None = refl

      by_name : (q : Place) (b : Bool) → has_name name q ≡ b → shown_as_opened s name shown q
          ≡ cond (is_some (finite.find location_cmp q left)) (shown_as_opened s name shown q) (shown_there s name shown q)
      by_name q true named =
          by_entry q (finite.get s.entries q)
          ∙ sym (ap (λ (o : Option WrittenValue). cond (is_some o) (shown_as_opened s name shown q) (shown_there s name shown q)) (all q named))
      by_name q false other =
          same (is_some (finite.find location_cmp q left)) (shown_as_opened s name shown q)
          ∙ ap (cond (is_some (finite.find location_cmp q left)) (shown_as_opened s name shown q)) (unnamed_there q other)

-- a value in a state is one of an entry, or an opening one
pub none_shown : (s : StateView) (name : List ℕ) (shown : Place → Value) → HidesAll s.entries name shown → HidesAll s.base name shown →
    IsNoneShown s name shown
none_shown s name shown entries base l named held = by_entry (finite.get s.entries l) (finite.get s.base l) refl refl where
  by_entry : (o : Option WrittenValue) (p : Option Value) → finite.get s.entries l ≡ o → finite.get s.base l ≡ p → is_undef (shown l) ≡ true
  by_entry (Some w) p e f = entries l named (ap is_some e)
  by_entry None (Some v) e f = base l named (ap is_some f)
  by_entry None None e f =
      absurd (false≢true (sym held ∙ ap (λ (o : Option WrittenValue). is_undef (value_over (val s.base l) o)) e
      ∙ ap (λ (o : Option Value). is_undef (unwrap_or o undef)) f))

-- ANOTHER STATE BESIDE

module _ (own : State) where
  -- what is left is what the other state has there
  pub record IsRest (left : List (Place × Value)) : Type 0 where
    pub rising : T (finite.is_sorted location_cmp left)
    pub of : (q : Place) (x : Value) → finite.find location_cmp q left ≡ Some x → finite.get own q ≡ Some x

  pub rest_start : (left : List (Place × Value)) → left ≡ finite.entries own → IsRest left
  rest_start left all = record {
    rising = rising_start own left all;
    of = λ q x is. sym (all_has own left all q) ∙ is;
  }

  rest_first : (k : Place) (x : Value) (rest : List (Place × Value)) → IsRest ((k, x) ∷ rest) → finite.get own k ≡ Some x
  rest_first k x rest is = is.of k x (ap (λ b. cond b (Some x) (finite.find location_cmp k rest)) (itself location_cmp_total k))

  pub rest_step : (k : Place) (x : Value) (rest : List (Place × Value)) → IsRest ((k, x) ∷ rest) → IsRest rest
  rest_step k x rest is = record {
    rising = rising_rest location_cmp k x rest is.rising;
    of = λ q y found. by_tie q y found (eq_by_cmp location_cmp q k) refl;
  } where
    by_tie : (q : Place) (y : Value) → finite.find location_cmp q rest ≡ Some y → (b : Bool) →
        eq_by_cmp location_cmp q k ≡ b → finite.get own q ≡ Some y
    by_tie q y found true tie =
        absurd (false≢true (ap is_some (sym (ap (λ p. finite.find location_cmp p rest) (same_location q k tie) ∙ first_gone location_cmp k x rest is.rising) ∙ found)))
    by_tie q y found false apart =
        is.of q y (ap (λ b. cond b (Some x) (finite.find location_cmp q rest)) apart ∙ found)

  module _ (below : Place → Value) (before : Place → Option Value) (none : (l : Place) → is_undef (below l) ≡ true → before l ≡ None) where
    pub beside_start : (left : List (Place × Value)) (n : ℕ) → left ≡ finite.entries own → IsCountOf before n →
        IsCounting before (with_own below own before) left n
    beside_start left n all counted = record {
      rising = rising_start own left all;
      counted = counted.0;
      each = λ q. counted.1 q ∙ by_own q (finite.get own q) refl;
      count = counted.2;
    } where
      by_own : (q : Place) (o : Option Value) → finite.get own q ≡ o → before q
          ≡ cond (is_some (finite.find location_cmp q left)) (before q) (cond (is_some (finite.get own q) && is_undef (below q)) (finite.get own q) (before q))
      by_own q (Some v) e =
          sym (ap (λ (p : Option Value). cond (is_some p) (before q) (cond (is_some (finite.get own q) && is_undef (below q)) (finite.get own q) (before q))) (all_has own left all q ∙ e))
      by_own q None e =
          sym (ap (λ (p : Option Value). cond (is_some p) (before q) (cond (is_some p && is_undef (below q)) p (before q))) e)
          ∙ sym (ap (λ (p : Option Value). cond (is_some p) (before q) (cond (is_some (finite.get own q) && is_undef (below q)) (finite.get own q) (before q))) (all_has own left all q))

    pub beside_step : (k : Place) (x : Value) (rest : List (Place × Value)) (n m : ℕ) (b : Bool) → IsRest ((k, x) ∷ rest) →
        b ≡ is_undef (below k) → m ≡ cond b (min (n + 1) count_limit) n →
        IsCounting before (with_own below own before) ((k, x) ∷ rest) n → IsCounting before (with_own below own before) rest m
    beside_step k x rest n m b is test more counting = by_test b test more where
      after : (b : Bool) → b ≡ is_undef (below k) → with_own below own before k ≡ cond b (Some x) (before k)
      after b test =
          ap (λ (o : Option Value). cond (is_some o && is_undef (below k)) o (before k)) (rest_first k x rest is)
          ∙ ap (λ t. cond t (Some x) (before k)) (sym test)

      by_test : (b : Bool) → b ≡ is_undef (below k) → m ≡ cond b (min (n + 1) count_limit) n → IsCounting before (with_own below own before) rest m
      by_test true test more =
          counting_more before (with_own below own before) k x rest n m x (none k (sym test)) (after true test) more counting
      by_test false test more =
          subst (λ j. IsCounting before (with_own below own before) rest j) (sym more)
          (counting_skip before (with_own below own before) k x rest n (after false test) counting)

pub twice : (b : Bool) → not (not b) ≡ b
twice true = refl
twice false = refl
