-- The walks along the entries find the least location of a name that was written above a number.
use Rattle.std.proofs.Common.{◌≡◌, ℕ, Bool, true, false, cond, ◌&&◌, nat_lt, is_some, T, List, [], ◌∷◌, Option, Some, None, Result, Ok, Err, IfOk, refl, sym, ap, ◌∙◌, arith}
use Rattle.std.proofs.lemmas.Bool.{false≢true}
use Rattle.std.proofs.lemmas.Bool.Decides.{nat_tests}
use Rattle.std.specs.Borrow.{Bor}
use Rattle.std.specs.Option.{option_copied}
use Rattle.std.specs.BTreeMap.Range.{entries_between}
use Rattle.std.specs.FinMap as finite
use Rattle.std.specs.FinMap.Entries.{is_sorted}
use Rattle.std.specs.Ordering.{eq_by_cmp}
use Rattle.std.specs.declared.ops.Bound.TheVariants.{Included, Unbounded}
use Rattle.asm_element.specs.Ascending.{first_gone}
use Rattle.asm_element.specs.Place.{Place, location_cmp, location_cmp_total, same_location}
use Rattle.asm_element.specs.Tests.{both, itself}
use Rattle.asm_update.specs.Fire.{Part}
use Rattle.asm_update.specs.Move.{IsLeast, Move}
use Rattle.asm_update.specs.State.{State}
use Rattle.asm_state.specs.declared.entries.WrittenValue.{WrittenValue}
use Rattle.asm_state.specs.Scans.{has_name, is_newer, is_rewritten, IsLeastOf}
use Rattle.asm_state.specs.FollowsFrom.{FollowsFrom}
use Rattle.asm_state.specs.View.{StateView, writer_at, writer_of}
use Rattle.asm_state.proofs.Onward.{IsOnward, not_below, onward_has, onward_past, onward_start, onward_step}
use Rattle.asm_state.proofs.Writers.{stale_is}

and_false : (b : Bool) → (b && false) ≡ false
and_false true = refl
and_false false = refl

module _ (name : List ℕ) (number : ℕ) where
  -- whether the entry of a location is newer
  abbrev newer : Option WrittenValue → Place → Bool
  newer o q = is_newer name number q (writer_of o)

  -- a location without an entry isn't
  none_newer : (q : Place) → newer None q ≡ false
  none_newer q =
      let no : nat_lt number 0 ≡ false = grind (arith, nat_tests) in
      ap (λ b. has_name name q && b) no ∙ and_false (has_name name q)

  newer_some : (o : Option WrittenValue) (q : Place) → newer o q ≡ true → is_some o ≡ true
  newer_some (Some w) q h = refl
  newer_some None q h = absurd (false≢true (sym (none_newer q) ∙ h))

  -- the first of the list isn't newer: the rest tells the same of each location
  pub newer_rest : (k : Place) (w : WrittenValue) (rest : List (Place × WrittenValue)) (q : Place) →
      T (is_sorted location_cmp ((k, w) ∷ rest)) → is_newer name number k w.writer ≡ false →
      newer (finite.find location_cmp q rest) q ≡ newer (finite.find location_cmp q ((k, w) ∷ rest)) q
  newer_rest k w rest q sorted old = by_test (eq_by_cmp location_cmp q k) refl where
    by_test : (b : Bool) → eq_by_cmp location_cmp q k ≡ b →
        newer (finite.find location_cmp q rest) q ≡ newer (cond b (Some w) (finite.find location_cmp q rest)) q
    by_test false e = refl
    by_test true e =
        let same = same_location q k e in
        ap (λ (o : Option WrittenValue). newer o q) (ap (λ p. finite.find location_cmp p rest) same ∙ first_gone location_cmp k w rest sorted)
        ∙ none_newer q ∙ sym (ap (λ (p : Place). newer (Some w) p) same ∙ old)

  -- nothing is left: no location is newer
  pub newer_end : (all : Place → Bool) → ((q : Place) → newer (finite.find {X = WrittenValue} location_cmp q []) q ≡ all q) →
      (q : Place) → all q ≡ false
  newer_end all same q = sym (same q) ∙ none_newer q

  first_newer : (k : Place) (w : WrittenValue) (rest : List (Place × WrittenValue)) → is_newer name number k w.writer ≡ true →
      newer (finite.find location_cmp k ((k, w) ∷ rest)) k ≡ true
  first_newer k w rest new = ap (λ b. newer (cond b (Some w) (finite.find location_cmp k rest)) k) (itself location_cmp_total k) ∙ new

  -- the first of the list is newer: it is the least
  pub newer_found : (all : Place → Bool) (k : Place) (w : WrittenValue) (rest : List (Place × WrittenValue)) →
      T (is_sorted location_cmp ((k, w) ∷ rest)) → is_newer name number k w.writer ≡ true →
      ((q : Place) → newer (finite.find location_cmp q ((k, w) ∷ rest)) q ≡ all q) → IsLeastOf all (Some k)
  newer_found all k w rest sorted new same = record {
    passes = sym (same k) ∙ first_newer k w rest new;
    least = λ q passes. not_below k w rest q sorted (newer_some (finite.find location_cmp q ((k, w) ∷ rest)) q (same q ∙ passes));
  }

-- whether a location of the name is newer by all entries
abbrev pub newer_in : Place → ℕ → finite.FinMap location_cmp WrittenValue → Place → Bool
newer_in first number m q = is_newer first.name number q (writer_of (finite.get m q))

-- what is left of the entries from the first location of a name on, which tells of each location of the name what all do
pub record IsLeft (first : Place) (number : ℕ) (m : finite.FinMap location_cmp WrittenValue)
    (left : List (Place × WrittenValue)) : Type 0 where
  pub walk : IsOnward first left
  pub same : (q : Place) → has_name first.name q ≡ true →
      is_newer first.name number q (writer_of (finite.find location_cmp q left)) ≡ newer_in first number m q

module _ (first : Place) (number : ℕ) (none : first.args ≡ []) where
  pub left_start : (m : finite.FinMap location_cmp WrittenValue) (left : List (Place × WrittenValue)) →
      left ≡ entries_between location_cmp (Included first) Unbounded (finite.entries m) →
      IsLeft first number m left
  left_start m left is = record {
    walk = onward_start first m left is;
    same = λ q named. ap (λ (o : Option WrittenValue). is_newer first.name number q (writer_of o))
        (onward_has first m left is none q named);
  }

  module _ (m : finite.FinMap location_cmp WrittenValue) (k : Place) (w : WrittenValue) (rest : List (Place × WrittenValue))
      (left : IsLeft first number m ((k, w) ∷ rest)) where
    -- the first is of the name, and not newer
    pub left_step : nat_lt number w.writer ≡ false → IsLeft first number m rest
    left_step old =
        let not_newer : is_newer first.name number k w.writer ≡ false =
        ap (λ b. has_name first.name k && b) old ∙ and_false (has_name first.name k) in
        record {
          walk = onward_step first k w rest left.walk;
          same = λ q named. newer_rest first.name number k w rest q left.walk.rising not_newer ∙ left.same q named;
        }

    -- the first is of another name
    pub left_other : has_name first.name k ≡ false → (q : Place) → has_name first.name q ≡ true → newer_in first number m q ≡ false
    left_other other q named =
        by_newer (is_newer first.name number q (writer_of (finite.find location_cmp q ((k, w) ∷ rest)))) refl (left.same q named) where
          by_newer : (b : Bool) → is_newer first.name number q (writer_of (finite.find location_cmp q ((k, w) ∷ rest))) ≡ b →
              is_newer first.name number q (writer_of (finite.find location_cmp q ((k, w) ∷ rest))) ≡ newer_in first number m q → newer_in first number m q ≡ false
          by_newer false e reported = sym reported ∙ e
          by_newer true e reported = absurd (false≢true (sym (onward_past first k w rest left.walk other q named) ∙ newer_some first.name number (finite.find location_cmp q ((k, w) ∷ rest)) q e))

    of_name : (q : Place) → newer_in first number m q ≡ true → has_name first.name q ≡ true
    of_name q h = (both (has_name first.name q) (nat_lt number (writer_of (finite.get m q))) h).0

    -- the first is of the name, and newer
    pub left_found : has_name first.name k ≡ true →
        nat_lt number w.writer ≡ true → IsLeast (newer_in first number m) k
    left_found named new = record {
      passes = sym (left.same k named) ∙ first_newer first.name number k w rest (ap (λ b. b && nat_lt number w.writer) named ∙ new);
      least = λ q passes. not_below k w rest q left.walk.rising
          (newer_some first.name number (finite.find location_cmp q ((k, w) ∷ rest)) q (left.same q (of_name q passes) ∙ passes));
    }

  -- nothing is left
  pub left_end : (m : finite.FinMap location_cmp WrittenValue) → IsLeft first number m [] → (q : Place) → has_name first.name q ≡ true → newer_in first number m q ≡ false
  left_end m left q named = sym (left.same q named) ∙ none_newer first.name number q

-- a location that isn't of the name isn't newer
pub other_name : (name : List ℕ) (number : ℕ) (q : Place) (writer : ℕ) →
    (has_name name q ≡ true → is_newer name number q writer ≡ false) → is_newer name number q writer ≡ false
other_name name number q writer named = by_name (has_name name q) refl named where
  by_name : (b : Bool) → has_name name q ≡ b → (b ≡ true → (b && nat_lt number writer) ≡ false) → (b && nat_lt number writer) ≡ false
  by_name true e h = h refl
  by_name false e h = refl

-- a test that answers the same has the same least
pub same_least : (test all : Place → Bool) (found : Option Place) → ((q : Place) → all q ≡ test q) →
    IsLeastOf test found → IsLeastOf all found
same_least test all None e h = λ q. e q ∙ h q
same_least test all (Some l) e h = record { passes = e l ∙ h.passes; least = λ q is. h.least q (sym (e q) ∙ is) }

pub same_least_ok : {E : Type 0} (test all : Place → Bool) (r : Result (Option (Bor Place)) E) → ((q : Place) → all q ≡ test q) →
    IfOk r (λ found. IsLeastOf test (option_copied found)) → IfOk r (λ found. IsLeastOf all (option_copied found))
same_least_ok test all (Ok found) e h = same_least test all (option_copied found) e h
same_least_ok test all (Err e') e h = tt

-- the number of the last writer tells whether a location was written since
pub rewritten_is : (part : Part) (init : State) (q : List Move) (s : StateView) (name : List ℕ) (number : ℕ) (l : Place) →
    FollowsFrom part init s q → is_rewritten part init q name number l ≡ is_newer name number l (writer_at s l)
rewritten_is part init q s name number l stands =
    ap (λ b. has_name name l && b) (stale_is part init q l number ∙ ap (nat_lt number) (sym (stands.writers l)))
