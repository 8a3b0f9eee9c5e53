-- Values that come in one by one from a list in ascending order of locations: what is left of the list, over what came in.
use Rattle.std.proofs.Common.{◌≡◌, Bool, true, false, cond, is_some, T, List, [], ◌∷◌, Option, Some, None, refl, sym, ap, ◌∙◌}
use Rattle.std.proofs.lemmas.Bool.{false≢true}
use Rattle.std.specs.Ordering.{eq_by_cmp}
use Rattle.std.specs.Option.{option_map_or}
use Rattle.std.specs.Prelude.{unwrap_or}
use Rattle.std.specs.FinMap as finite
use Rattle.asm_element.specs.Place.{Place, location_cmp, same_location}
use Rattle.asm_element.specs.Ascending.{first_gone, rising_rest}
use Rattle.asm_element.specs.Value.{undef, undef_is, is_undef}
use Rattle.asm_element.specs.declared.value.Value.{Value}
use Rattle.asm_update.specs.State.{State, val, write, empty}
use Rattle.asm_update.proofs.FireLemmas.{get-write, stored}
use Rattle.asm_state.specs.declared.entries.WrittenValue.{WrittenValue}
use Rattle.asm_state.specs.View.{StateView, value_at, value_over}

stored_value : (v : Value) → unwrap_or (stored v) undef ≡ v
stored_value v = by_test (is_undef v) refl where
  by_test : (b : Bool) → is_undef v ≡ b → unwrap_or (cond b None (Some v)) undef ≡ v
  by_test true e = sym (undef_is v e)
  by_test false e = refl

-- the value at a location after a write
pub val-write : (A : State) (k : Place) (v : Value) (q : Place) → val (write A k v) q ≡ cond (eq_by_cmp location_cmp q k) v (val A q)
val-write A k v q = ap (λ (o : Option Value). unwrap_or o undef) (get-write A k v q) ∙ by_test (eq_by_cmp location_cmp q k) where
  by_test : (b : Bool) → unwrap_or (cond b (stored v) (finite.get A q)) undef ≡ cond b v (val A q)
  by_test true = stored_value v
  by_test false = refl

module _ {X : Type 0} (f : X → Value) (test : Place → Bool) (goal : Place → Value) where
  -- what is left of the list, over the values that came in, is the goal at each wanted location; others are undef
  pub record IsFilled (left : List (Place × X)) (A : State) : Type 0 where
    pub rising : T (finite.is_sorted location_cmp left)
    pub wanted : (q : Place) → test q ≡ true → option_map_or f (finite.find location_cmp q left) (val A q) ≡ goal q
    pub others : (q : Place) → test q ≡ false → val A q ≡ undef

  -- the first of the list came in, if it is wanted
  pub filled_step : (k : Place) (x : X) (rest : List (Place × X)) (old new : State) →
      new ≡ cond (test k) (write old k (f x)) old →
      IsFilled ((k, x) ∷ rest) old → IsFilled rest new
  filled_step k x rest old new is filled = by_test (test k) refl where
    same_at : (q : Place) → test q ≡ true → test k ≡ false → eq_by_cmp location_cmp q k ≡ false
    same_at q named other = by_tie (eq_by_cmp location_cmp q k) refl where
      by_tie : (b : Bool) → eq_by_cmp location_cmp q k ≡ b → b ≡ false
      by_tie false e = refl
      by_tie true e = absurd (false≢true (sym other ∙ ap test (sym (same_location q k e)) ∙ named))

    came : (q : Place) (b : Bool) → eq_by_cmp location_cmp q k ≡ b →
        option_map_or f (finite.find location_cmp q rest) (cond b (f x) (val old q))
        ≡ option_map_or f (cond b (Some x) (finite.find location_cmp q rest)) (val old q)
    came q true e =
        ap (λ (o : Option X). option_map_or f o (f x))
        (ap (λ p. finite.find location_cmp p rest) (same_location q k e) ∙ first_gone location_cmp k x rest filled.rising)
    came q false e = refl

    by_test : (b : Bool) → test k ≡ b → IsFilled rest new
    by_test true e =
        let now : new ≡ write old k (f x) = is ∙ ap (λ b. cond b (write old k (f x)) old) e in
        let at : (q : Place) → val new q ≡ cond (eq_by_cmp location_cmp q k) (f x) (val old q) =
        λ q. ap (λ (A : State). val A q) now ∙ val-write old k (f x) q in
        record {
          rising = rising_rest location_cmp k x rest filled.rising;
          wanted = λ q named. ap (option_map_or f (finite.find location_cmp q rest)) (at q) ∙ came q (eq_by_cmp location_cmp q k) refl ∙ filled.wanted q named;
          others = λ q other. at q ∙ by_tie q other (eq_by_cmp location_cmp q k) refl;
        } where
          by_tie : (q : Place) → test q ≡ false → (b : Bool) → eq_by_cmp location_cmp q k ≡ b → cond b (f x) (val old q) ≡ undef
          by_tie q other true t = absurd (false≢true (sym other ∙ ap test (same_location q k t) ∙ e))
          by_tie q other false t = filled.others q other
    by_test false e =
        let now : new ≡ old = is ∙ ap (λ b. cond b (write old k (f x)) old) e in
        record {
          rising = rising_rest location_cmp k x rest filled.rising;
          wanted = λ q named.
              ap (λ (A : State). option_map_or f (finite.find location_cmp q rest) (val A q)) now
              ∙ ap (λ b. option_map_or f (cond b (Some x) (finite.find location_cmp q rest)) (val old q)) (sym (same_at q named e))
              ∙ filled.wanted q named;
          others = λ q other. ap (λ (A : State). val A q) now ∙ filled.others q other;
        }

  -- the first of the list is wanted, and came in
  pub filled_taken : (k : Place) (x : X) (rest : List (Place × X)) (old new : State) → test k ≡ true →
      new ≡ write old k (f x) → IsFilled ((k, x) ∷ rest) old → IsFilled rest new
  filled_taken k x rest old new named is =
      filled_step k x rest old new (is ∙ sym (ap (λ b. cond b (write old k (f x)) old) named))

  -- all that is wanted came in
  pub filled_past : (left : List (Place × X)) (A : State) → IsFilled left A →
      ((q : Place) → test q ≡ true → is_some (finite.find location_cmp q left) ≡ false) →
      (q : Place) → val A q ≡ cond (test q) (goal q) undef
  filled_past left A filled past q = by_test (test q) refl where
    none : (o : Option X) → is_some o ≡ false → val A q ≡ option_map_or f o (val A q)
    none None e = refl
    none (Some x) e = absurd (false≢true (sym e))

    by_test : (b : Bool) → test q ≡ b → val A q ≡ cond b (goal q) undef
    by_test true e = none (finite.find location_cmp q left) (past q e) ∙ filled.wanted q e
    by_test false e = filled.others q e

  -- all came in
  pub filled_end : (A : State) → IsFilled [] A → (q : Place) → val A q ≡ cond (test q) (goal q) undef
  filled_end A filled = filled_past [] A filled (λ q named. refl)

-- before the first of the opening values came in, of which these are left
pub opening_start : (test : Place → Bool) (opening A : State) (left : List (Place × Value)) →
    T (finite.is_sorted location_cmp left) →
    ((q : Place) → test q ≡ true → finite.find location_cmp q left ≡ finite.get opening q) → A ≡ empty →
    IsFilled (λ v. v) test (val opening) left A
opening_start test opening A left rising has none =
    let nothing : (q : Place) → val A q ≡ undef =
    λ q. ap (λ (B : State). val B q) none ∙ ap (λ (o : Option Value). unwrap_or o undef) (finite.get-empty location_cmp q) in
    record {
      rising = rising;
      wanted = λ q named.
          ap (option_map_or (λ v. v) (finite.find location_cmp q left)) (nothing q)
          ∙ ap (λ (o : Option Value). option_map_or (λ v. v) o undef) (has q named)
          ∙ value_held (finite.get opening q);
      others = λ q other. nothing q;
    } where
      value_held : (o : Option Value) → option_map_or (λ v. v) o undef ≡ unwrap_or o undef
      value_held (Some v) = refl
      value_held None = refl

-- the value that an entry holds
abbrev pub held_value : WrittenValue → Value
held_value w = unwrap_or w.value undef

-- before the first of the entries came in, of which these are left, over the opening values
pub entries_start : (test : Place → Bool) (s : StateView) (A : State) (left : List (Place × WrittenValue)) →
    T (finite.is_sorted location_cmp left) →
    ((q : Place) → test q ≡ true → finite.find location_cmp q left ≡ finite.get s.entries q) →
    ((q : Place) → val A q ≡ cond (test q) (val s.base q) undef) →
    IsFilled held_value test (value_at s) left A
entries_start test s A left rising has opened = record {
  rising = rising;
  wanted = λ q named.
      ap (option_map_or held_value (finite.find location_cmp q left)) (opened q ∙ ap (λ b. cond b (val s.base q) undef) named)
      ∙ ap (λ (o : Option WrittenValue). option_map_or held_value o (val s.base q)) (has q named)
      ∙ value_there (val s.base q) (finite.get s.entries q);
  others = λ q other. opened q ∙ ap (λ b. cond b (val s.base q) undef) other;
} where
  value_there : (v : Value) (o : Option WrittenValue) → option_map_or held_value o v ≡ value_over v o
  value_there v (Some w) = refl
  value_there v None = refl

-- where all entries of a map are left, each of its locations is there
pub all_has : {X : Type 0} (m : finite.FinMap location_cmp X) (left : List (Place × X)) → left ≡ finite.entries m →
    (q : Place) → finite.find location_cmp q left ≡ finite.get m q
all_has {X} m left all q =
    ap (λ (es : List (Place × X)). finite.find location_cmp q es) all ∙ sym (finite.get-entries m q)
